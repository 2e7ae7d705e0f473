-- A compacted bank: its slots, what refuses it, and its live records, which are the old ones in their order at places renamed by a strictly rising
-- map. Assumes nothing.
use Rattle.rules.proofs.Kit.{ℕ, zero, suc, ◌+◌, ◌-◌, ◌%◌, ◌≤◌, ◌<◌, ◌≡◌, refl, sym, ap, ◌∙◌, true, List, [], ◌∷◌, ◌++◌, map, ⊎_elim, arith, length}
use Rattle.rules.proofs.Kit.{length-append, replicate, ne_eqb, eq-eqb}
use lib.ListN.{length-replicate}
use Rattle.rules.specs.{Limits.record_bytes, Order.Each, Bytes.number, Records.Listed, Records.listed, Records.model_of, Refused.length_faults, Trust.id_of}
use Rattle.rules.specs.{Trust.records_of, Slots.free_slot, Slots.is_blank, Slots.slot_faults, Slots.live_faults, Slots.live_slots, Slots.live_of, Slots.live_in}
use Rattle.rules.specs.{Edits.closed_up, Edits.compacted}
use Rattle.rules.proofs.{Choices.equal-yes, Choices.equal-no, Orders.same_or_not, Chunks.Whole, Chunks.joined_length, Slots.live-none, Slots.live-left}
use Rattle.rules.proofs.{Slots.live-kept, Slots.live-fewer, Slots.live-each, Slots.placed, Slots.listed_slots, Slots.placed_free, Slots.placed_live}
use Rattle.rules.proofs.{Slots.placed_none, Slots.slots_whole, Slots.slots_length, Slots.slots_joined, Slots.live-whole, Slots.live-length, Slots.live-clear}
use Rattle.rules.proofs.{Slots.clear_each}
use Rattle.demands.specs.Renamed.{Rises, renamed, slot_of_live}
use Rattle.demands.proofs.Lists.{each_append, each-replicate}

-- ---- free slots, and slots that are live or free

pub free_id : id_of free_slot ≡ 0
unfolding id_of model_of number
free_id = refl

pub free_long : length free_slot ≡ record_bytes
free_long = refl

-- A slot with id 0 is blank
abbrev pub LiveOrFree : List ℕ → Type 0
LiveOrFree r = id_of r ≡ 0 → is_blank r ≡ true

pub free_blank : LiveOrFree free_slot
unfolding is_blank
free_blank e = refl

-- EACH SLOT LIVE OR FREE: then there is no 34
pub each_clear : (rs : List (List ℕ)) → Each LiveOrFree rs → slot_faults rs ≡ []
unfolding slot_faults
each_clear [] h = refl
each_clear (r ∷ rs) h =
    ⊎_elim
    (λ e. rw (eq-eqb (id_of r) 0 e, h.0 e) (each_clear rs h.1))
    (λ n. rw (ne_eqb (id_of r) 0 n) (each_clear rs h.1))
    (same_or_not (id_of r) 0)

-- and without 1 and 2 nothing refuses the bank
pub faultless : (bank : List ℕ) → length_faults (length bank) ≡ [] → slot_faults (records_of bank) ≡ [] → live_faults bank ≡ []
unfolding live_faults
faultless bank long clear = rw (long, clear)

-- ---- the slots of a compacted bank

module _ (bank : List ℕ) where
  -- how many slots are free after it
  abbrev freed : ℕ
  freed = length (records_of bank) - length (live_slots (records_of bank))

  closed-each : (P : List ℕ → Type 0) → P free_slot → Each P (records_of bank) → Each P (closed_up (records_of bank))
  unfolding closed_up
  closed-each P free h = each_append P (live_slots (records_of bank)) _ (live-each id_of P (records_of bank) h) (each-replicate P freed free_slot free)

  closed-whole : Whole (closed_up (records_of bank))
  closed-whole = closed-each _ free_long (slots_whole bank)

  -- S8. A COMPACTED BANK'S SLOTS are the live ones and then free ones
  pub compacted-slots : records_of (compacted bank) ≡ closed_up (records_of bank)
  unfolding compacted
  compacted-slots = slots_joined (closed_up (records_of bank)) closed-whole

  many-closed : length (closed_up (records_of bank)) ≡ length (records_of bank)
  unfolding closed_up
  many-closed = rw (length-append, length-replicate) (omega (arith, live-fewer id_of (records_of bank)))

  -- S8. IT IS AS LONG AS IT WAS
  pub compacted-length : length bank % record_bytes ≡ 0 → length (compacted bank) ≡ length bank
  unfolding compacted
  compacted-length whole = omega (arith, joined_length (closed_up (records_of bank)) closed-whole, many-closed, slots_length bank)

  -- S2, S8. WHERE NO SLOT WAS NEITHER LIVE NOR FREE, none is
  pub compacted-clear : slot_faults (records_of bank) ≡ [] → slot_faults (records_of (compacted bank)) ≡ []
  compacted-clear h = rw compacted-slots (each_clear (closed_up (records_of bank)) (closed-each LiveOrFree free_blank (clear_each (records_of bank) h)))

  -- S2, S8. SO NOTHING REFUSES IT where nothing refused the bank
  pub compacted-faultless : live_faults bank ≡ [] → live_faults (compacted bank) ≡ []
  compacted-faultless clean =
      faultless (compacted bank) (ap length_faults (compacted-length (live-whole bank clean)) ∙ live-length bank clean)
      (compacted-clear (live-clear bank clean))

-- ---- which slot a live record had: a strictly rising map

module _ (place : ℕ) (r : List ℕ) (rs : List (List ℕ)) where
  slot-free : id_of r ≡ 0 → (j : ℕ) → slot_of_live place (r ∷ rs) j ≡ slot_of_live (suc place) rs j
  unfolding slot_of_live
  slot-free e zero = equal-yes _ _ _ _ e
  slot-free e (suc j) = equal-yes _ _ _ _ e

  slot-first : (id_of r ≡ 0 → ⊥) → slot_of_live place (r ∷ rs) zero ≡ place
  unfolding slot_of_live
  slot-first n = equal-no _ _ _ _ n

  slot_next : (id_of r ≡ 0 → ⊥) → (j : ℕ) → slot_of_live place (r ∷ rs) (suc j) ≡ slot_of_live (suc place) rs j
  unfolding slot_of_live
  slot_next n j = equal-no _ _ _ _ n

slot_none : (place j : ℕ) → slot_of_live place [] j ≡ place + j
unfolding slot_of_live
slot_none place j = refl

slot_from : (place : ℕ) (rs : List (List ℕ)) (j : ℕ) → place ≤ slot_of_live place rs j
slot_from place [] j = omega (arith, slot_none place j)
slot_from place (r ∷ rs) zero =
    ⊎_elim
    (λ e. omega (arith, slot-free place r rs e zero, slot_from (suc place) rs zero))
    (λ n. omega (arith, slot-first place r rs n))
    (same_or_not (id_of r) 0)
slot_from place (r ∷ rs) (suc j) =
    ⊎_elim
    (λ e. omega (arith, slot-free place r rs e (suc j), slot_from (suc place) rs (suc j)))
    (λ n. omega (arith, slot_next place r rs n j, slot_from (suc place) rs j))
    (same_or_not (id_of r) 0)

-- THE SLOTS OF LIVE RECORDS RISE
pub slot_rises : (place : ℕ) (rs : List (List ℕ)) → Rises (slot_of_live place rs)
slot_rises place [] a b h = omega (arith, slot_none place a, slot_none place b)
slot_rises place (r ∷ rs) a b h =
    ⊎_elim
    (λ e. omega (arith, slot-free place r rs e a, slot-free place r rs e b, slot_rises (suc place) rs a b h))
    (λ n. live n (λ x y k. slot_rises (suc place) rs x y k) a b h)
    (same_or_not (id_of r) 0)
  where
    live : (id_of r ≡ 0 → ⊥) → Rises (slot_of_live (suc place) rs) → (a b : ℕ) → a < b → slot_of_live place (r ∷ rs) a < slot_of_live place (r ∷ rs) b
    live n up a zero h = absurd (omega arith)
    live n up zero (suc b) h = omega (arith, slot-first place r rs n, slot_next place r rs n b, slot_from (suc place) rs b)
    live n up (suc a) (suc b) h = omega (arith, slot_next place r rs n a, slot_next place r rs n b, up a b (omega arith))

-- ---- the live records of a compacted bank

-- free slots list nothing, and live ones before them list as they stand
free_none : (k n : ℕ) → live_of (placed k (replicate n free_slot)) ≡ []
free_none k zero = placed_none k
free_none k (suc n) = placed_free k free_slot (replicate n free_slot) free_id ∙ free_none (suc k) n

closed_live : (k n : ℕ) (rs : List (List ℕ)) → live_of (placed k (live_slots rs ++ replicate n free_slot)) ≡ placed k (live_slots rs)
closed_live k n [] = rw (live-none id_of) (free_none k n)
closed_live k n (r ∷ rs) =
    ⊎_elim
    (λ e. rw (live-left id_of r rs e) (closed_live k n rs))
    (λ m. rw (live-kept id_of r rs m)
    (placed_live k r (live_slots rs ++ replicate n free_slot) m ∙ ap (λ (ls : List Listed). listed k (model_of r) ∷ ls) (closed_live (suc k) n rs)))
    (same_or_not (id_of r) 0)

-- a renaming of places that start one later
shifted : (f : ℕ → ℕ) (k : ℕ) (rs : List (List ℕ)) → map (renamed f) (placed (suc k) rs) ≡ map (renamed (λ j. f (suc j))) (placed k rs)
shifted f k [] = refl
shifted f k (r ∷ rs) = ap (λ (ls : List Listed). listed (f (suc k)) (model_of r) ∷ ls) (shifted f (suc k) rs)

live_renamed : (place : ℕ) (rs : List (List ℕ)) → live_of (placed place rs) ≡ map (renamed (slot_of_live place rs)) (placed 0 (live_slots rs))
live_renamed place [] = rw (placed_none place, live-none id_of)
live_renamed place (r ∷ rs) =
    ⊎_elim
    (λ e. let same : slot_of_live (suc place) rs ≡ slot_of_live place (r ∷ rs) = λ i j. sym (slot-free place r rs e j) i in
    placed_free place r rs e ∙ live_renamed (suc place) rs ∙ (λ i. map (renamed (same i)) (placed 0 (sym (live-left id_of r rs e) i))))
    (λ n. let f = slot_of_live place (r ∷ rs) in
    let next : slot_of_live (suc place) rs ≡ (λ j. f (suc j)) = λ i j. sym (slot_next place r rs n j) i in
    placed_live place r rs n
    ∙ (λ i. listed (sym (slot-first place r rs n) i) (model_of r) ∷ (live_renamed (suc place) rs ∙ (λ j. map (renamed (next j)) (placed 0 (live_slots rs)))
    ∙ sym (shifted f 0 (live_slots rs))) i)
    ∙ (λ i. map (renamed f) (placed 0 (sym (live-kept id_of r rs n) i))))
    (same_or_not (id_of r) 0)

module _ (bank : List ℕ) where
  -- S8. ITS LIVE RECORDS stand at the places from 0 on, without a gap
  pub compacted-live : live_in (compacted bank) ≡ placed 0 (live_slots (records_of bank))
  unfolding closed_up
  compacted-live =
      ap live_of (listed_slots (compacted bank) ∙ ap (placed 0) (compacted-slots bank)) ∙ closed_live 0 (freed bank) (records_of bank)

  -- S8. THE SAME RECORDS IN THE SAME ORDER: the old places are a strictly rising renaming of the new ones
  pub compaction-renames : live_in bank ≡ map (renamed (slot_of_live 0 (records_of bank))) (live_in (compacted bank))
  compaction-renames =
      ap live_of (listed_slots bank) ∙ live_renamed 0 (records_of bank) ∙ sym (ap (map (renamed (slot_of_live 0 (records_of bank)))) compacted-live)
