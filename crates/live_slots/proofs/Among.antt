-- So many of a bank's records: all of them, or its live ones. Assumes nothing.
use Rattle.rules.proofs.Kit.{ℕ, ◌-◌, ◌/◌, ◌≤◌, ◌<◌, ◌≡◌, refl, sym, ap, subst, ◌∙◌, List, [], ◌∷◌, suc, arith, add-zero, ⊎_elim, length}
use Rattle.rules.specs.{Records.Listed, Records.listed_of, Records.records_in, Listing.first_listed, Trust.records_of, Slots.live_faults, Slots.live_in, Price.Cost}
use Rattle.rules.specs.{Verdict.judged_by, Verdict.judged, Rank.eligibles, Rank.ranking, Count.counts_of, declared.decision.RejectionHistogram.RejectionHistogram}
use Rattle.rules.specs.{declared.records.KernelInput.KernelInput, declared.records.PolicySnapshot.PolicySnapshot}
use Rattle.rules.proofs.{Choices.below-yes, Choices.below-no, Orders.lt_or_le, Slots.live-fewer, Slots.live-full, Slots.slots_length}
use Rattle.rules.proofs.Slots.{live-few, live-clear, first_live, FreeOff, bank_off, listed_slots, placed}
use Rattle.live_slots.specs.Among.{among_of, Among}
use Rattle.live_slots.proofs.LeftOut.{more_off, out_many, eligibles-left, ranking-left, counts-left}

-- ---- all of them

pub all_read : (bank : List ℕ) → among_of (records_in (length bank)) bank ≡ listed_of bank
unfolding among_of
all_read bank = below-no (length bank / 47) (length bank / 47) _ _ (omega arith)

pub all_among : (bank : List ℕ) → length bank / 47 ≤ 65535 → Among (records_in (length bank)) bank
all_among bank few = record {
  few = few;
  most = omega arith;
  clear = λ h. absurd (omega arith);
  live = λ h. absurd (omega arith);
}

-- ---- its live ones

pub listed-many : (bank : List ℕ) → length (listed_of bank) ≡ length bank / 47
listed-many bank = rw (listed_slots bank) (as_many 0 (records_of bank) ∙ slots_length bank)
  where
    as_many : (k : ℕ) (rs : List (List ℕ)) → length (placed k rs) ≡ length rs
    as_many k [] = refl
    as_many k (r ∷ rs) = ap suc (as_many (suc k) rs)

pub live_most : (bank : List ℕ) → length (live_in bank) ≤ length bank / 47
live_most bank = omega (arith, live-fewer (λ (l : Listed). l.model.model_id) (listed_of bank), listed-many bank)

module _ (bank : List ℕ) (clean : live_faults bank ≡ []) (many : ℕ) (its : many ≡ length (live_in bank)) where
  pub live-read : among_of many bank ≡ live_in bank
  unfolding among_of
  live-read =
      ⊎_elim
      (λ (h : many < length bank / 47). below-yes many (length bank / 47) _ _ h)
      (λ (h : length bank / 47 ≤ many). below-no many (length bank / 47) _ _ h
      ∙ sym (live-full (λ (l : Listed). l.model.model_id) (listed_of bank) (omega (arith, listed-many bank))))
      (lt_or_le many (length bank / 47))

  pub live-among : Among many bank
  live-among = record {
    few = live-few bank clean;
    most = omega (arith, live_most bank);
    clear = λ h. live-clear bank clean;
    live = λ h. its;
  }

-- ---- either

module _ (many : ℕ) (bank : List ℕ) (seen : Among many bank) where
  -- what is said of both is said of so many
  pub either : (P : List Listed → Type 0) → (many < length bank / 47 → P (live_in bank)) → (length bank / 47 ≤ many → P (listed_of bank)) → P (among_of many bank)
  unfolding among_of
  either P live all =
      ⊎_elim
      (λ (h : many < length bank / 47). subst P (sym (below-yes many (length bank / 47) (live_in bank) (listed_of bank) h)) (live h))
      (λ (h : length bank / 47 ≤ many). subst P (sym (below-no many (length bank / 47) (live_in bank) (listed_of bank) h)) (all h))
      (lt_or_le many (length bank / 47))

  -- AS MANY AS IT SAYS ARE READ
  pub read-many : length (among_of many bank) ≡ many
  read-many = either (λ ls. length ls ≡ many) (λ h. sym (seen.live h)) (λ h. omega (arith, listed-many bank, seen.most))

  off : (h : many < length bank / 47) → FreeOff (listed_of bank)
  off h = bank_off bank (seen.clear h)

  -- THE ELIGIBLE MODELS AND THE RANKING ARE THOSE OF EVERY RECORD, by any rule of cost
  module _ (costs : Cost) (p : PolicySnapshot) (q : KernelInput) where
    pub eligibles-read : eligibles (judged_by costs p q (among_of many bank)) ≡ eligibles (judged_by costs p q (listed_of bank))
    eligibles-read =
        either (λ ls. eligibles (judged_by costs p q ls) ≡ eligibles (judged_by costs p q (listed_of bank)))
        (λ h. sym (eligibles-left costs p q (listed_of bank) (off h))) (λ h. refl)

    pub ranking-read : ranking (judged_by costs p q (among_of many bank)) ≡ ranking (judged_by costs p q (listed_of bank))
    ranking-read =
        either (λ ls. ranking (judged_by costs p q ls) ≡ ranking (judged_by costs p q (listed_of bank)))
        (λ h. sym (ranking-left costs p q (listed_of bank) (off h))) (λ h. refl)

  -- AND THE COUNTS, LESS AS MANY AS ARE NOT READ OFF `disabled`
  pub counts-read : (p : PolicySnapshot) (q : KernelInput)
      → counts_of (judged p q (listed_of bank)) ≡ more_off (length bank / 47 - many) (counts_of (judged p q (among_of many bank)))
  counts-read p q =
      either (λ ls. counts_of (judged p q (listed_of bank)) ≡ more_off (length bank / 47 - many) (counts_of (judged p q ls)))
      (λ h. counts-left p q (listed_of bank) (off h)
      ∙ ap (λ (k : ℕ). more_off k (counts_of (judged p q (live_in bank)))) (omega (arith, out_many (listed_of bank), listed-many bank, seen.live h)))
      (λ h. none-off (length bank / 47 - many) (counts_of (judged p q (listed_of bank))) (omega arith))
    where
      none_more : (c : RejectionHistogram) → c ≡ more_off 0 c
      none_more c = sym (rw add-zero)

      none-off : (k : ℕ) (c : RejectionHistogram) → k ≡ 0 → c ≡ more_off k c
      none-off k c e = rw e (none_more c)

  -- THE FIRST RECORD WITH AN ID IS THE FIRST OF ALL, but that a live record has no id 0
  pub first_read : (id : ℕ) → (many < length bank / 47 → id ≡ 0 → ⊥) → first_listed id (among_of many bank) ≡ first_listed id (listed_of bank)
  first_read id other =
      either (λ ls. first_listed id ls ≡ first_listed id (listed_of bank)) (λ h. first_live id (other h) (listed_of bank)) (λ h. refl)
