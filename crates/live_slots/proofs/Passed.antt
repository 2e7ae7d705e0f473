-- The slots of a bank from one on: what refuses them, and how many are live. Assumes nothing.
use Rattle.rules.proofs.Kit.{ℕ, suc, ◌+◌, ◌-◌, ◌/◌, ◌<◌, ◌≡◌, sym, ◌∙◌, true, false, List, [], ◌∷◌, arith, add-one, eq-eqb, ne_eqb, length, drop, drop-cons}
use Rattle.rules.proofs.Kit.{drop-length}
use Rattle.rules.specs.{Records.record_part, Refused.fault, Refused.length_faults, Trust.records_of, Trust.id_of, Slots.is_blank, Slots.slot_faults, Slots.live_faults}
use Rattle.rules.specs.{Slots.live_slots, Slots.live_in}
use Rattle.rules.proofs.{Chunks.records_at, Slots.slots_length, Slots.live-left, Slots.live-kept, Slots.live-none, Slots.live_many}

module _ (bank : List ℕ) where
  abbrev pub slots_from : ℕ → List (List ℕ)
  slots_from i = drop i (records_of bank)

  pub slots_tail : (i : ℕ) → i < length bank / 47 → slots_from i ≡ record_part bank i ∷ slots_from (i + 1)
  slots_tail i h =
      let k : i < length (records_of bank) = rw (slots_length bank) h in
      rw (add-one, drop-cons (records_of bank) i [] k, records_at (length bank / 47) i bank h)

  pub slots_end : (i : ℕ) → i ≡ length bank / 47 → slots_from i ≡ []
  slots_end i e = rw (e ∙ sym (slots_length bank)) (drop-length (records_of bank))

  -- A LIVE SLOT is not refused, and is counted
  module _ (i : ℕ) (h : i < length bank / 47) (live : id_of (record_part bank i) ≡ 0 → ⊥) where
    pub live_passes : slot_faults (slots_from i) ≡ slot_faults (slots_from (i + 1))
    unfolding slot_faults
    live_passes = rw (slots_tail i h, ne_eqb (id_of (record_part bank i)) 0 live)

    pub live_counts : length (live_slots (slots_from i)) ≡ suc (length (live_slots (slots_from (i + 1))))
    live_counts = rw (slots_tail i h, live-kept id_of (record_part bank i) (slots_from (i + 1)) live)

  -- A FREE ONE is not counted; it is refused where it isn't clear
  module _ (i : ℕ) (h : i < length bank / 47) (free : id_of (record_part bank i) ≡ 0) where
    pub free_passes : true ≡ is_blank (record_part bank i) → slot_faults (slots_from i) ≡ slot_faults (slots_from (i + 1))
    unfolding slot_faults
    free_passes e = rw (slots_tail i h, eq-eqb (id_of (record_part bank i)) 0 free, ← e)

    pub free_counts : length (live_slots (slots_from i)) ≡ length (live_slots (slots_from (i + 1)))
    free_counts = rw (slots_tail i h, live-left id_of (record_part bank i) (slots_from (i + 1)) free)

    pub free_refused : false ≡ is_blank (record_part bank i) → slot_faults (slots_from i) ≡ fault 34 ∷ slot_faults (slots_from (i + 1))
    unfolding slot_faults
    free_refused e = rw (slots_tail i h, eq-eqb (id_of (record_part bank i)) 0 free, ← e)

  -- WHERE THE LENGTH PASSES, what refuses the bank is what refuses its slots
  pub slots_refuse : length_faults (length bank) ≡ [] → live_faults bank ≡ slot_faults (records_of bank)
  unfolding live_faults
  slots_refuse even = rw even

  -- At the end nothing more refuses it, and none is left to count
  module _ (i : ℕ) (e : i ≡ length bank / 47) where
    pub none_refused : slot_faults (slots_from i) ≡ []
    unfolding slot_faults
    none_refused = rw (slots_end i e)

    pub all_counted : (free : ℕ) → i + length (live_slots (slots_from i)) ≡ free + length (live_slots (records_of bank))
        → length bank / 47 - free ≡ length (live_in bank)
    all_counted free h =
        let rest : length (live_slots (slots_from i)) ≡ 0 = rw (slots_end i e, live-none id_of) in
        omega (arith, live_many bank)
