-- `batch::over::fill` meets its contract. The loop's invariant: so many requests have their decision in the row, and the rest of it is as it was.
-- Assumes nothing.
use Rattle.rules.proofs.Kit.{◌≡◌, map}
use Rattle.rules.specs.Numbers.{told_decision}
use Rattle.live_slots.specs.Among.{among_of}
use Rattle.batch.proofs.{Filling.own, Filling.after}
use Rattle.batch.proofs.over.fill.Given as goal

abbrev pub invariant-loop-place : goal.invariant-loop-place
invariant-loop-place l =
    map told_decision l.row ≡ after (own l.policy (among_of l.many l.bank)) l.inputs (map told_decision l.initial.row) l.place
