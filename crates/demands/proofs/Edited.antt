-- WHAT ANY ROW OF EDITS KEEPS, refused ones among them: the bank's length; and where each slot was live or free and no live id was there twice, that.
-- So a bank edited from an empty one has it. Assumes nothing.
use Rattle.rules.proofs.Kit.{ℕ, zero, suc, ◌*◌, ◌/◌, ◌%◌, ◌≤◌, ◌≡◌, refl, sym, ap, subst, ◌∙◌, List, [], ◌∷◌, ◌++◌, arith, length, replicate, set, set_at}
use Rattle.rules.proofs.Kit.{le-ltb, eq-eqb}
use lib.ListN.{length-replicate}
use Rattle.rules.specs.{Order.Each, Order.Pairs, Refused.Faults, Refused.length_faults, Refused.Answer, Refused.refused, Refused.answered, Refused.unless}
use Rattle.rules.specs.{Trust.id_of, Trust.records_of, Slots.free_slot, Slots.live_faults, Slots.live_in, Edits.slot_to_add, Edits.slot_to_replace}
use Rattle.rules.specs.{Edits.slot_to_remove, Edits.written_at, Edits.add_bank, Edits.replace_bank, Edits.remove_bank, Edits.compact_faults, Edits.compacted}
use Rattle.rules.specs.{Edits.compact_bank, declared.records.PolicySnapshot.PolicySnapshot}
use Rattle.rules.proofs.{Faults.none_first, Slots.slots_joined, Slots.live-whole, Slots.clear_each, Slots.free_joined}
use Rattle.demands.specs.{Standing.UniqueIds, Edited.Edit, Edited.adding, Edited.replacing, Edited.removing, Edited.compacting, Edited.after_edit}
use Rattle.demands.specs.{Edited.after_edits, Edited.empty_bank, Edited.Tidy, Renamed.slot_of_live}
use Rattle.demands.proofs.{Lists.each-replicate, Lists.each-swapped, Lists.pairs-swapped, SlotsApart.FreeIfAlike, SlotsApart.SlotsApart}
use Rattle.demands.proofs.{SlotsApart.slots_apart, SlotsApart.apart_unique, SlotsApart.renamed_unique, SlotsApart.GoesWith, SlotsApart.free-goes}
use Rattle.demands.proofs.{SlotsApart.new-goes, SlotsApart.same-goes, Closing.free_id, Closing.free_long, Closing.free_blank, Closing.LiveOrFree}
use Rattle.demands.proofs.{Closing.each_clear, Closing.faultless, Closing.compacted-length, Closing.compacted-clear, Closing.compaction-renames}
use Rattle.demands.proofs.{Writing.Allowed, Writing.written-slots, Writing.written_length, Writing.removal, Writing.replacement, Writing.addition}

-- ---- one slot written

module _ (bank r : List ℕ) (id slot : ℕ) (a : Allowed bank r id slot) where
  abbrev lower : List (List ℕ)
  lower = a.place.before

  abbrev higher : List (List ℕ)
  higher = a.place.after

  -- the slots then: another record in one of them
  pub now-holds : records_of (written_at (answered slot) r bank) ≡ lower ++ r ∷ higher
  now-holds =
      written-slots bank slot r a.long ∙ ap (λ (rs : List (List ℕ)). set rs slot r) a.place.whole
      ∙ set_at lower a.place.here higher r slot (sym (a.place.at ∙ omega arith))

  written-tidy : LiveOrFree r → GoesWith lower r higher → Tidy bank → Tidy (written_at (answered slot) r bank)
  written-tidy good with tidy =
      let here = a.place.here in
      let clear = subst (Each LiveOrFree) a.place.whole (clear_each (records_of bank) tidy.clear) in
      let apart = subst SlotsApart a.place.whole (slots_apart bank tidy.unique) in
      record {
        clear = rw now-holds (each_clear (lower ++ r ∷ higher) (each-swapped LiveOrFree lower here higher r good clear));
        unique =
            apart_unique (written_at (answered slot) r bank)
            (rw now-holds (pairs-swapped (FreeIfAlike id_of) lower here higher r with.0 with.1 apart));
      }

-- what an edit leaves is the bank as it was, or the bank written
by_slot : (P : List ℕ → Type 0) (bank r : List ℕ) (o : Answer ℕ) → P bank → ((slot : ℕ) → o ≡ answered slot → P (written_at (answered slot) r bank))
    → P (written_at o r bank)
by_slot P bank r (refused f) as_it_was written = as_it_was
by_slot P bank r (answered slot) as_it_was written = written slot refl

by_faults : (P : List ℕ → Type 0) (p : PolicySnapshot) (bank : List ℕ) → P bank → (compact_faults p bank ≡ [] → P (compacted bank)) → P (compact_bank p bank)
unfolding compact_bank
by_faults P p bank as_it_was closed = go (compact_faults p bank) closed
  where
    go : (fs : Faults) → (fs ≡ [] → P (compacted bank)) → P (unless fs (λ f. bank) (compacted bank))
    go [] h = h refl
    go (f ∷ fs) h = as_it_was

compact_clean : (p : PolicySnapshot) (bank : List ℕ) → compact_faults p bank ≡ [] → live_faults bank ≡ []
unfolding compact_faults
compact_clean p bank e = none_first (live_faults bank) _ e

-- ---- one edit

abbrev AsLong : List ℕ → List ℕ → Type 0
AsLong bank b = length b ≡ length bank

allowed_length : (bank r : List ℕ) (id slot : ℕ) → Allowed bank r id slot → AsLong bank (written_at (answered slot) r bank)
allowed_length bank r id slot a = written_length bank slot r a.long (live-whole bank a.clean)

-- S7, S8. THE BANK IS AS LONG AS IT WAS, whatever bank it is
pub edit_keeps_length : (bank : List ℕ) (e : Edit) → length (after_edit bank e) ≡ length bank
unfolding add_bank replace_bank remove_bank
edit_keeps_length bank (adding p r) =
    by_slot (AsLong bank) bank r (slot_to_add p bank r) refl (λ slot e. allowed_length bank r 0 slot (addition p bank r slot e).0)
edit_keeps_length bank (replacing p r) =
    by_slot (AsLong bank) bank r (slot_to_replace p bank r) refl (λ slot e. allowed_length bank r _ slot (replacement p bank r slot e).0)
edit_keeps_length bank (removing p id) =
    by_slot (AsLong bank) bank free_slot (slot_to_remove p bank id) refl (λ slot e. allowed_length bank free_slot id slot (removal p bank id slot e))
edit_keeps_length bank (compacting p) =
    by_faults (AsLong bank) p bank refl (λ e. compacted-length bank (live-whole bank (compact_clean p bank e)))

-- Document 02, i. A TIDY BANK STAYS TIDY: each slot live or free, and no live id twice
pub edit_keeps_tidy : (bank : List ℕ) (e : Edit) → Tidy bank → Tidy (after_edit bank e)
unfolding add_bank replace_bank remove_bank
edit_keeps_tidy bank (adding p r) tidy =
    by_slot Tidy bank r (slot_to_add p bank r) tidy
    (λ slot e. let (a, named, new) = addition p bank r slot e in
    let f = a.place in
    written-tidy bank r 0 slot a (λ z. absurd (named z))
    (new-goes f.before f.here f.after r (subst (Each (λ s. id_of s ≡ id_of r → ⊥)) f.whole new)) tidy)
edit_keeps_tidy bank (replacing p r) tidy =
    by_slot Tidy bank r (slot_to_replace p bank r) tidy
    (λ slot e. let (a, named) = replacement p bank r slot e in
    let f = a.place in
    written-tidy bank r (id_of r) slot a (λ z. absurd (named z))
    (same-goes f.before f.here f.after r f.has (subst SlotsApart f.whole (slots_apart bank tidy.unique))) tidy)
edit_keeps_tidy bank (removing p id) tidy =
    by_slot Tidy bank free_slot (slot_to_remove p bank id) tidy
    (λ slot e. let a = removal p bank id slot e in
    written-tidy bank free_slot id slot a free_blank (free-goes a.place.before a.place.here a.place.after) tidy)
edit_keeps_tidy bank (compacting p) tidy =
    by_faults Tidy p bank tidy
    (λ e. record {
      clear = compacted-clear bank tidy.clear;
      unique = renamed_unique (slot_of_live 0 (records_of bank)) (live_in (compacted bank)) (subst UniqueIds (compaction-renames bank) tidy.unique);
    })

-- ---- any row of them

-- S7, S8. THE BANK IS AS LONG AS IT WAS
pub edits_keep-length : (es : List Edit) (bank : List ℕ) → length (after_edits bank es) ≡ length bank
edits_keep-length [] bank = refl
edits_keep-length (e ∷ es) bank = edits_keep-length es (after_edit bank e) ∙ edit_keeps_length bank e

-- Document 02, i. ANY ROW OF EDITS KEEPS A BANK TIDY, whatever is refused on the way and whatever the policies are
pub edits_keep_tidy : (es : List Edit) (bank : List ℕ) → Tidy bank → Tidy (after_edits bank es)
edits_keep_tidy [] bank tidy = tidy
edits_keep_tidy (e ∷ es) bank tidy = edits_keep_tidy es (after_edit bank e) (edit_keeps_tidy bank e tidy)

-- ---- from an empty bank

empty_slots : (n : ℕ) → records_of (empty_bank n) ≡ replicate n free_slot
empty_slots n = ap records_of (sym (free_joined n)) ∙ slots_joined (replicate n free_slot) (each-replicate _ n free_slot free_long)

few_slots : (n : ℕ) → n ≤ 65535 → length_faults (47 * n) ≡ []
unfolding length_faults
few_slots n few = rw (eq-eqb (47 * n % 47) 0 (omega arith), le-ltb 65535 (47 * n / 47) (omega arith))

pairs_replicate : {A : Type 0} (R : A → A → Type 0) (n : ℕ) (a : A) → R a a → Pairs R (replicate n a)
pairs_replicate R zero a r = tt
pairs_replicate R (suc n) a r = (each-replicate (R a) n a r, pairs_replicate R n a r)

pub empty_tidy : (n : ℕ) → Tidy (empty_bank n)
empty_tidy n =
    record {
      clear = rw (empty_slots n) (each_clear (replicate n free_slot) (each-replicate LiveOrFree n free_slot free_blank));
      unique = apart_unique (empty_bank n) (rw (empty_slots n) (pairs_replicate (FreeIfAlike id_of) n free_slot (λ e. free_id)));
    }

module _ (n : ℕ) (es : List Edit) where
  -- Document 02, i. A BANK EDITED FROM AN EMPTY ONE, of any number of slots, is as long as it was
  pub from-empty-length : length (after_edits (empty_bank n) es) ≡ 47 * n
  from-empty-length = edits_keep-length es (empty_bank n) ∙ length-replicate (47 * n) 0

  -- Document 02, i. and each of its slots is live or free, and NO TWO LIVE RECORDS HAVE THE SAME ID
  pub from-empty-tidy : Tidy (after_edits (empty_bank n) es)
  from-empty-tidy = edits_keep_tidy es (empty_bank n) (empty_tidy n)

  -- S2. so where it has at most 65,535 slots no live call refuses it
  pub from-empty-faultless : n ≤ 65535 → live_faults (after_edits (empty_bank n) es) ≡ []
  from-empty-faultless few = faultless (after_edits (empty_bank n) es) (ap length_faults from-empty-length ∙ few_slots n few) from-empty-tidy.clear
