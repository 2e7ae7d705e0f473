-- `batch::over::first_bad` meets its contract. The loop's invariant: of the requests that are passed none is refused. Assumes nothing.
use Rattle.rules.proofs.Kit.{◌≡◌, drop}
use Rattle.rules.specs.Batch.{requests_faults}
use Rattle.batch.proofs.over.first_bad.Given as goal

abbrev pub invariant-loop-place : goal.invariant-loop-place
invariant-loop-place l = requests_faults 0 l.inputs ≡ requests_faults l.place (drop l.place l.inputs)
