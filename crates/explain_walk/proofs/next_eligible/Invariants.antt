-- `explain_walk::next_eligible` meets its contract. The loop's invariant: no entry passed is eligible. Assumes nothing.
use Rattle.rules.proofs.Kit.{◌≡◌}
use Rattle.rules.specs.Explain.{next_eligible_of}
use Rattle.explain_walk.proofs.next_eligible.Given as goal

abbrev pub invariant-loop-place : goal.invariant-loop-place
invariant-loop-place l = next_eligible_of l.list l.from ≡ next_eligible_of l.list l.place
