-- `live_slots::read_slots` meets its contract. The loop's invariant: none of the slots passed is refused, and those passed and the live ones left are
-- the free ones counted and all that are live. Assumes nothing.
use Rattle.rules.proofs.Kit.{◌+◌, ◌≤◌, ◌≡◌, length}
use Rattle.rules.specs.{Trust.records_of, Slots.slot_faults, Slots.live_slots}
use Rattle.live_slots.proofs.{Passed.slots_from}
use Rattle.live_slots.proofs.slots.read_slots.Given as goal

abbrev pub invariant-loop-place : goal.invariant-loop-place
invariant-loop-place l = record {
  free : l.free ≤ l.place;
  passed : slot_faults (records_of l.bank) ≡ slot_faults (slots_from l.bank l.place);
  counted : l.place + length (live_slots (slots_from l.bank l.place)) ≡ l.free + length (live_slots (records_of l.bank));
}
