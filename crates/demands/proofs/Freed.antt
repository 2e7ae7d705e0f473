-- ADDING TAKES THE LOWEST FREE SLOT, SO WHAT WAS FREED IS USED AGAIN. Assumes nothing.
use Rattle.rules.proofs.Kit.{ℕ, suc, ◌+◌, ◌≤◌, ◌≡◌, refl, sym, ap, subst, ◌∙◌, Bool, true, false, ◌&&◌, false≢true, List, [], ◌∷◌, ◌++◌, some, ⊎_elim, arith}
use Rattle.rules.proofs.Kit.{eqb-true, eqb, length, take, take_at, replicate}
use Rattle.rules.specs.{Order.Each, Refused.Answer, Refused.refused, Refused.answered, Numbers.EditedPolicy, Listing.first_listed, Listing.place_of, Trust.id_of}
use Rattle.rules.specs.{Trust.records_of, Slots.free_slot, Slots.is_blank, Slots.lowest_free, Edits.add_faults, Edits.offered, Edits.slot_to_add, Edits.slot_to_remove}
use Rattle.rules.specs.{Edits.raised_with, Edits.raised_at, Edits.written_at, Edits.add_of, Edits.add_bank, Edits.remove_of, Edits.remove_bank}
use Rattle.rules.specs.{declared.records.PolicySnapshot.PolicySnapshot}
use Rattle.rules.proofs.{Orders.same_or_not, Chunks.Whole, Slots.placed, Slots.listed_slots, Slots.live-clear, Slots.slots_whole, Slots.clear_each}
use Rattle.rules.proofs.{Sorted.each-middle}
use Rattle.demands.specs.Edited.{Live, InLowestFree}
use Rattle.demands.proofs.{Closing.free_id, Closing.LiveOrFree, Writing.first-here, Writing.first-later, Writing.Allowed, Writing.removal}
use Rattle.demands.proofs.{Writing.addition, Edited.now-holds}

-- ---- an edit that is answered

raised_slot : (o : Answer ℕ) (p : PolicySnapshot) (a : EditedPolicy) → raised_at o p ≡ answered a → o ≡ answered a.number
raised_slot (refused f) p a e = absurd (let w : ◌≡◌ {A = ℕ} 0 1 = cc in omega arith)
raised_slot (answered slot) p a e = let w : raised_with p slot ≡ a = cc in ap (λ (b : EditedPolicy). answered b.number) w

-- ---- a slot of blank bytes is a free slot

blank_zeros : (s : List ℕ) → is_blank s ≡ true → s ≡ replicate (length s) 0
unfolding is_blank
blank_zeros [] h = refl
blank_zeros (b ∷ bs) h = go (eqb b 0) refl h (λ k. blank_zeros bs k)
  where
    go : (t : Bool) → eqb b 0 ≡ t → (t && is_blank bs) ≡ true → (is_blank bs ≡ true → bs ≡ replicate (length bs) 0) → b ∷ bs ≡ 0 ∷ replicate (length bs) 0
    go true e k rest = λ i. eqb-true b 0 e i ∷ rest k i
    go false e k rest = absurd (false≢true k)

-- so what adding finds is 47 zeros
found_free : (bank r : List ℕ) (slot : ℕ) (a : Allowed bank r 0 slot) → a.place.here ≡ free_slot
found_free bank r slot a =
    let f = a.place in
    let long = each-middle _ f.before f.here f.after (subst Whole f.whole (slots_whole bank)) in
    let clear = subst (Each LiveOrFree) f.whole (clear_each (records_of bank) (live-clear bank a.clean)) in
    blank_zeros f.here (each-middle LiveOrFree f.before f.here f.after clear f.has) ∙ ap (λ (n : ℕ). replicate n 0) long

-- Document 02, i. ADDING TAKES THE LOWEST FREE SLOT: all below it are live, it was free, and every other slot is as it was
pub add_takes_lowest : (p : PolicySnapshot) (bank r : List ℕ) (a : EditedPolicy) → add_of p bank r ≡ answered a
    → InLowestFree r a.number (records_of bank) (records_of (add_bank p bank r))
unfolding add_of add_bank
add_takes_lowest p bank r a e =
    let slot = a.number in
    let found = raised_slot (slot_to_add p bank r) p a e in
    let allowed = (addition p bank r slot found).0 in
    let f = allowed.place in
    record {
      lower = f.before;
      higher = f.after;
      was = f.whole ∙ ap (λ (s : List ℕ). f.before ++ s ∷ f.after) (found_free bank r slot allowed);
      is = ap (λ (o : Answer ℕ). records_of (written_at o r bank)) found ∙ now-holds bank r 0 slot allowed;
      place = f.at ∙ omega arith;
      live = f.lacks;
    }

-- ---- what was freed

-- where a slot is free, the lowest free one stands at or below it
lowest_below : (place : ℕ) (xs : List (List ℕ)) (x : List ℕ) (ys : List (List ℕ)) → id_of x ≡ 0
    → (slot : ℕ) × (place_of (first_listed 0 (placed place (xs ++ x ∷ ys))) ≡ some slot) × (slot ≤ place + length xs)
lowest_below place [] x ys e = (place, ap place_of (first-here 0 place x ys e), omega arith)
lowest_below place (z ∷ xs) x ys e =
    ⊎_elim
    (λ h. (place, ap place_of (first-here 0 place z (xs ++ x ∷ ys) h), omega arith))
    (λ n. let (slot, at, low) = lowest_below (suc place) xs x ys e in (slot, ap place_of (first-later 0 place z (xs ++ x ∷ ys) n) ∙ at, omega arith))
    (same_or_not (id_of z) 0)

-- and where all below it are live it is that one
lowest_there : (place : ℕ) (xs : List (List ℕ)) (x : List ℕ) (ys : List (List ℕ)) → Each Live xs → id_of x ≡ 0
    → place_of (first_listed 0 (placed place (xs ++ x ∷ ys))) ≡ some (place + length xs)
lowest_there place [] x ys h e = let here : place ≡ place + 0 = omega arith in ap place_of (first-here 0 place x ys e) ∙ ap (λ (n : ℕ). some n) here
lowest_there place (z ∷ xs) x ys h e =
    let next : suc place + length xs ≡ place + suc (length xs) = omega arith in
    ap place_of (first-later 0 place z (xs ++ x ∷ ys) h.0) ∙ lowest_there (suc place) xs x ys h.1 e ∙ ap (λ (n : ℕ). some n) next

module _ (p : PolicySnapshot) (bank : List ℕ) (id : ℕ) (a : EditedPolicy) (removed : remove_of p bank id ≡ answered a) where
  at_slot : slot_to_remove p bank id ≡ answered a.number
  unfolding remove_of
  at_slot = raised_slot (slot_to_remove p bank id) p a removed

  allowed : Allowed bank free_slot id a.number
  allowed = removal p bank id a.number at_slot

  freed-slots : records_of (remove_bank p bank id) ≡ allowed.place.before ++ free_slot ∷ allowed.place.after
  unfolding remove_bank
  freed-slots = ap (λ (o : Answer ℕ). records_of (written_at o free_slot bank)) at_slot ∙ now-holds bank free_slot id a.number allowed

  -- the lowest free slot then, by the slots
  lowest-then : lowest_free (remove_bank p bank id) ≡ place_of (first_listed 0 (placed 0 (allowed.place.before ++ free_slot ∷ allowed.place.after)))
  unfolding lowest_free
  lowest-then = ap (λ ls. place_of (first_listed 0 ls)) (listed_slots (remove_bank p bank id) ∙ ap (placed 0) freed-slots)

  -- Document 02, i. AFTER A REMOVAL A SLOT IS FREE, at or below the removed one: the next adding isn't refused by 28
  pub freed-has-room : (slot : ℕ) × (lowest_free (remove_bank p bank id) ≡ some slot) × (slot ≤ a.number)
  freed-has-room =
      let f = allowed.place in
      let (slot, at, low) = lowest_below 0 f.before free_slot f.after free_id in
      (slot, lowest-then ∙ at, omega (arith, low, f.at))

  -- Document 02, i. ROOM ONCE FREED IS USED AGAIN: where all slots below the removed one are live, the next adding takes that very slot
  pub freed-is-used : (later : PolicySnapshot) (r : List ℕ) → Each Live (take a.number (records_of bank))
      → offered r (add_faults later (remove_bank p bank id) (id_of r)) ≡ []
      → add_of later (remove_bank p bank id) r ≡ answered (raised_with later a.number)
  unfolding add_of slot_to_add
  freed-is-used later r live passed =
      let f = allowed.place in
      let below = subst (λ rs. Each Live (take a.number rs)) f.whole live in
      let lower = subst (Each Live) (take_at f.before (f.here ∷ f.after) a.number (omega (arith, f.at))) below in
      let there = lowest-then ∙ lowest_there 0 f.before free_slot f.after lower free_id ∙ ap (λ (n : ℕ). some n) (sym f.at) in
      rw (passed, there)
