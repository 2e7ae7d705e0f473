-- `export_live_lookups::live_find_delivered` meets its contract. Assumes nothing.
use Rattle.rules.proofs.Kit.{ℕ, List, ◌≡◌, [], ap, ◌∙◌, arith}
use Rattle.rules.specs.{Refused.answered, Listing.first_listed, Listing.place_of, Slots.live_faults, Slots.live_in, Live.live_find_of}
use Rattle.rules.proofs.{Faults.none_first, Slots.live-few}
use Rattle.live_slots.proofs.Told.{number_refused, number_passed}
use Rattle.export_checks.proofs.{Tests.then-room, Handed.tests-refused, Handed.tests-passed}
use Rattle.export_live_lookups.proofs.live_find_delivered.Goals as goal

-- where nothing refuses the bank, its live records are looked through
found : (id : ℕ) (bank : List ℕ) → live_faults bank ≡ [] → answered (place_of (first_listed id (live_in bank))) ≡ live_find_of id bank
unfolding live_find_of
found id bank clean = rw clean

pub returns-in-Err : goal.returns-in-Err
returns-in-Err c = tests-refused _ _ _ _ c.in-Err.refusal (number_refused _ _ _ c.in-Err.ensures) c.refusal_word.ensures

pub first_live-requires : goal.first_live-requires
first_live-requires c = live-few _ (none_first _ _ (number_passed _ _ _ c.in_default.ensures).0)

pub found_handed-requires : goal.found_handed-requires
found_handed-requires c =
    let room = then-room (live_faults _) _ _ (number_passed _ _ _ c.in_default.ensures).0 in
    omega arith

pub returns : goal.returns
returns c =
    let none = (number_passed _ _ _ c.in_default.ensures).0 in
    tests-passed _ _ _ _ none (ap answered c.first_live.ensures ∙ found _ _ (none_first _ _ none)) c.found_handed.ensures
