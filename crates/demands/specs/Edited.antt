-- Rows of edits of a bank, what they keep, and the slot that adding takes.
use Rattle.std.specs.Prelude.{ℕ, ◌*◌, ◌≡◌, length, replicate}
use mathlib.Core.List.{List, [], ◌∷◌, ◌++◌, foldl}
use Rattle.rules.specs.Limits.{record_bytes}
use Rattle.rules.specs.Order.{Each}
use Rattle.rules.specs.Trust.{id_of, records_of}
use Rattle.rules.specs.Slots.{free_slot, slot_faults, live_in}
use Rattle.rules.specs.Edits.{add_bank, replace_bank, remove_bank, compact_bank}
use Rattle.rules.specs.declared.records.PolicySnapshot.{PolicySnapshot}
use Rattle.demands.specs.Standing.{UniqueIds}

-- ---- rows of edits

-- An edit, or a compaction, with the policy under which it is called: each has its own, which may be the one that the edit before it handed back
pub data Edit : Type 0 where
  adding : PolicySnapshot → List ℕ → Edit
  replacing : PolicySnapshot → List ℕ → Edit
  removing : PolicySnapshot → ℕ → Edit
  compacting : PolicySnapshot → Edit

-- The bank after it, refused or not, and after a row of them
abbrev pub after_edit : List ℕ → Edit → List ℕ
after_edit bank (adding p r) = add_bank p bank r
after_edit bank (replacing p r) = replace_bank p bank r
after_edit bank (removing p id) = remove_bank p bank id
after_edit bank (compacting p) = compact_bank p bank

abbrev pub after_edits : List ℕ → List Edit → List ℕ
after_edits bank es = foldl after_edit bank es

-- A bank of so many free slots
abbrev pub empty_bank : ℕ → List ℕ
empty_bank slots = replicate (record_bytes * slots) 0

-- What edits keep: each slot is live or free, and no two live records have the same id
pub record Tidy (bank : List ℕ) : Type 0 where
  pub clear : slot_faults (records_of bank) ≡ []
  pub unique : UniqueIds (live_in bank)

-- ---- the slot that adding takes

-- A slot is live
abbrev pub Live : List ℕ → Type 0
Live r = id_of r ≡ 0 → ⊥

-- Of slots before and after: a record stands in the lowest free one, below which all are live, and every other slot is as it was
pub record InLowestFree (r : List ℕ) (slot : ℕ) (before after : List (List ℕ)) : Type 0 where
  pub lower : List (List ℕ)
  pub higher : List (List ℕ)
  pub was : before ≡ lower ++ free_slot ∷ higher
  pub is : after ≡ lower ++ r ∷ higher
  pub place : slot ≡ length lower
  pub live : Each Live lower
