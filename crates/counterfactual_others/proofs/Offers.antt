-- A bank with one record apart: the records before its place and those after it, what they offer, and the decision with a model in that
-- place by what they offer. For any bank, also one with repeated ids. Assumes nothing.
use Rattle.rules.proofs.Kit.{ℕ, zero, suc, ◌+◌, ◌*◌, ◌<◌, arith, ◌≡◌, refl, sym, ap, ◌∙◌, List, [], ◌∷◌, ◌++◌, map, length, take, drop, set, length-set}
use Rattle.rules.proofs.Kit.{length-take-le, take_at, set_at, drop-append-add}
use Rattle.rules.specs.{Records.Listed, Records.listed, Records.listed_from, Records.listed_of, Records.model_at, Records.records_in, Price.cost_under}
use Rattle.rules.specs.{Verdict.judged}
use Rattle.rules.specs.{Decide.stopped_by, Decide.decision_of, Levers.selects, declared.records.KernelModel.KernelModel}
use Rattle.rules.specs.{declared.records.KernelInput.KernelInput}
use Rattle.rules.specs.{declared.records.PolicySnapshot.PolicySnapshot, Order.Each}
use Rattle.rules.proofs.Stopped.{unstopped}
use Rattle.pricing.specs.Pricing.{pricing_of}
use Rattle.bank.proofs.Listing.{length-listed}
use Rattle.kernel_verdict.specs.Verdict.{verdict_in}
use Rattle.kernel_ranking.specs.{State.state_of, After.state_after}
use Rattle.kernel_ranking.proofs.{Moved.Elsewhere, Moved.state-apart, Verdicts.step-alike}
use Rattle.kernel_scan.specs.Places.{onward, placed_from}
use Rattle.kernel_scan.proofs.Places.{length-placed, placed_all, listed-split}
use Rattle.kernel_decide.specs.Decide.{decision_of_scan}
use Rattle.kernel_decide.proofs.Decisions.{state-decides}
use Rattle.kernel_among.specs.Top.{top_in}
use Rattle.kernel_among.proofs.Tops.{top-free}
use Rattle.counterfactual_others.specs.Others.{without_place, best_of, others_of, best_with, has_id}
use Rattle.counterfactual_others.proofs.{Selecting.best-selects, Selecting.best-costs, Apart.best-apart, Apart.others_apart}

-- ---- the places of the others

listed_each : (P : ℕ → Type 0) (bank : List ℕ) (i k : ℕ) → ((n : ℕ) → n < i + k → P n) → Each (λ l. P l.place) (listed_from bank i k)
listed_each P bank i zero h = tt
listed_each P bank i (suc k) h = (h i (omega arith), listed_each P bank (suc i) k (λ n l. h n (omega arith)))

onward_each : (P : ℕ → Type 0) (first : ℕ) → ((n : ℕ) → P (first + n)) → (ls : List Listed) → Each (λ l. P l.place) (map (onward first) ls)
onward_each P first h [] = tt
onward_each P first h (l ∷ ls) = (h l.place, onward_each P first h ls)

each_append : (P : Listed → Type 0) (ls ks : List Listed) → Each P ls → Each P ks → Each P (ls ++ ks)
each_append P [] ks h j = j
each_append P (l ∷ ls) ks h j = (h.0, each_append P ls ks h.1 j)

without_at : (ls : List Listed) (l : Listed) (ks : List Listed) → without_place (length ls) (ls ++ l ∷ ks) ≡ ls ++ ks
unfolding without_place
without_at ls l ks = rw (take_at ls (l ∷ ks) (length ls) refl, drop-append-add ls (l ∷ ks) 1)

module _ (bank : List ℕ) (place : ℕ) (inside : place < records_in (length bank)) where
  -- the records before the place, and those after it
  abbrev earlier : List Listed
  earlier = placed_from 0 (take (47 * place) bank)

  abbrev later : List Listed
  later = placed_from (place + 1) (drop (47 * place + 47) bank)

  earlier-many : records_in (length (take (47 * place) bank)) ≡ place
  earlier-many = rw (length-take-le (47 * place) bank (omega arith)) (omega arith)

  length-earlier : length earlier ≡ place
  length-earlier = length-placed 0 (take (47 * place) bank) ∙ earlier-many

  earlier-elsewhere : Each (Elsewhere place) earlier
  unfolding listed_of
  earlier-elsewhere =
      rw (placed_all (take (47 * place) bank), earlier-many)
      (listed_each (λ n. place ≡ n → ⊥) (take (47 * place) bank) 0 place (λ n l e. omega arith))

  later-elsewhere : Each (Elsewhere place) later
  unfolding placed_from
  later-elsewhere = onward_each (λ n. place ≡ n → ⊥) (place + 1) (λ n e. omega arith) (listed_of (drop (47 * place + 47) bank))

  -- the bank with any model at the place, and without it
  with-model : (m : KernelModel) → set (listed_of bank) place (listed place m) ≡ earlier ++ listed place m ∷ later
  with-model m =
      ap (λ ls. set ls place (listed place m)) (listed-split bank place inside)
      ∙ set_at earlier (listed place (model_at bank place)) later (listed place m) place length-earlier

  without-model : without_place place (listed_of bank) ≡ earlier ++ later
  without-model =
      ap (λ n. without_place n (listed_of bank)) (sym length-earlier) ∙ ap (without_place (length earlier)) (listed-split bank place inside)
      ∙ without_at earlier (listed place (model_at bank place)) later

  module _ (p : PolicySnapshot) (q : KernelInput) (free : stopped_by p q ≡ 0) where
    -- WHAT THE OTHERS OFFER, by the best two of all
    pub others-offer : others_of (top_in p q (listed_of bank)) place ≡ best_of p q (without_place place (listed_of bank))
    others-offer =
        rw (without-model, top-free p q (listed_of bank) free, listed-split bank place inside)
        (others_apart p q earlier later place (model_at bank place) later-elsewhere
        (each_append (Elsewhere place) earlier later earlier-elsewhere later-elsewhere))

    module _ (m : KernelModel) where
      best-of-bank : best_of p q (set (listed_of bank) place (listed place m))
          ≡ best_with (pricing_of p q) q (best_of p q (without_place place (listed_of bank))) place m
      best-of-bank = rw (with-model m, without-model) (best-apart p q earlier later place m later-elsewhere)

      -- WHAT THE DECISION WITH A MODEL AT A PLACE SELECTS AND COSTS, by the best of the others and the model's own verdict
      pub selects-by-others : (id : ℕ) → selects id (decision_of p q (set (listed_of bank) place (listed place m)))
          ≡ has_id id (best_with (pricing_of p q) q (best_of p q (without_place place (listed_of bank))) place m)
      selects-by-others id = best-selects p q free (set (listed_of bank) place (listed place m)) id ∙ ap (has_id id) best-of-bank

      pub costs-by-others : (decision_of p q (set (listed_of bank) place (listed place m))).cost
          ≡ (best_with (pricing_of p q) q (best_of p q (without_place place (listed_of bank))) place m).cost
      costs-by-others = best-costs p q free (set (listed_of bank) place (listed place m)) ∙ rw best-of-bank

      -- AND THE WHOLE DECISION, by what a scan of the others comes to and the model's own verdict
      pub decides-by-others : decision_of p q (set (listed_of bank) place (listed place m))
          ≡ decision_of_scan p q (state_after (state_of (judged p q (without_place place (listed_of bank)))) place m (verdict_in (pricing_of p q) q m))
          (records_in (length bank))
      decides-by-others =
          unstopped (cost_under p) p q (set (listed_of bank) place (listed place m)) free
          ∙ sym (state-decides p q (set (listed_of bank) place (listed place m)))
          ∙ rw (length-set (listed_of bank) place (listed place m), length-listed bank, with-model m, without-model)
          (rw (state-apart p q earlier (listed place m) later later-elsewhere)
          (rw (step-alike p q (state_of (judged p q (earlier ++ later))) place m)))
