-- A QUESTION OVER SO MANY OF A BANK'S RECORDS IS ANSWERED AS OVER ALL, for an id that is found or chosen among them. Assumes nothing.
use Rattle.rules.proofs.Kit.{ℕ, ◌/◌, ◌<◌, arith, ◌≡◌, refl, sym, ap, ◌∙◌, false, List, some, Option·none-ne-some, length}
use Rattle.rules.specs.{Records.Listed, Records.listed, Records.listed_of, Records.model_at, Numbers.is_rejection, Listing.first_listed, Listing.place_of}
use Rattle.rules.specs.{Price.cost_under, Decide.decision_of, Levers.Question, Win.win_search, Margin.margin_levers, Slots.live_in}
use Rattle.rules.specs.{declared.records.KernelInput.KernelInput, declared.records.PolicySnapshot.PolicySnapshot}
use Rattle.rules.proofs.Slots.{bank_off, none_zero}
use Rattle.live_slots.specs.Among.{among_of, Among}
use Rattle.live_slots.proofs.Among.{either}
use Rattle.call_checks.proofs.Finding.{found_at}
use Rattle.counterfactual_pass.proofs.LiveQuestions.{asking, win-live, margin-live, first_has, chosen_live}

module _ (many : ℕ) (bank : List ℕ) (seen : Among many bank) where
  -- A FOUND ID, AND A CHOSEN ONE, is no 0 where live records alone are read
  pub found-other : (id place : ℕ) → place_of (first_listed id (among_of many bank)) ≡ some place → many < length bank / 47 → id ≡ 0 → ⊥
  found-other id place =
      either many bank seen (λ ls. place_of (first_listed id ls) ≡ some place → many < length bank / 47 → id ≡ 0 → ⊥)
      (λ h e k z. Option·none-ne-some place (sym (ap place_of (ap (λ n. first_listed n (live_in bank)) z ∙ none_zero (listed_of bank))) ∙ e))
      (λ h e k z. omega arith)

  module _ (p : PolicySnapshot) (q : KernelInput) where
    pub chosen-other : is_rejection (decision_of p q (among_of many bank)) ≡ false
        → many < length bank / 47 → (decision_of p q (among_of many bank)).model ≡ 0 → ⊥
    chosen-other =
        either many bank seen (λ ls. is_rejection (decision_of p q ls) ≡ false → many < length bank / 47 → (decision_of p q ls).model ≡ 0 → ⊥)
        (λ h r k. chosen_live (cost_under p) p q (listed_of bank) r)
        (λ h r k e. omega arith)

    -- WHAT IS SOUGHT FOR SUCH AN ID is what is sought over every record
    module _ (id place : ℕ) (other : many < length bank / 47 → id ≡ 0 → ⊥) (first : place_of (first_listed id (listed_of bank)) ≡ some place) where
      abbrev ask : List Listed → Question
      ask = asking (cost_under p) p q id (model_at bank place)

      own : many < length bank / 47 → (model_at bank place).model_id ≡ 0 → ⊥
      own h z = other h (sym (first_has id (listed_of bank) (listed place (model_at bank place)) (found_at bank id place first).0) ∙ z)

      pub win-read : win_search (ask (among_of many bank)) ≡ win_search (ask (listed_of bank))
      win-read =
          either many bank seen (λ ls. win_search (ask ls) ≡ win_search (ask (listed_of bank)))
          (λ h. win-live (cost_under p) p q id (model_at bank place) (listed_of bank) (bank_off bank (seen.clear h)) (other h) (own h))
          (λ h. refl)

      pub margin-read : margin_levers (ask (among_of many bank)) ≡ margin_levers (ask (listed_of bank))
      margin-read =
          either many bank seen (λ ls. margin_levers (ask ls) ≡ margin_levers (ask (listed_of bank)))
          (λ h. margin-live (cost_under p) p q id (model_at bank place) (listed_of bank) (bank_off bank (seen.clear h)) (other h) (own h))
          (λ h. refl)
