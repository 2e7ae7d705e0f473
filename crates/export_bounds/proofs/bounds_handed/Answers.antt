-- `export_bounds::bounds_handed` meets its contract. Assumes nothing.
use Rattle.rules.proofs.Kit.{refl, ap}
use Rattle.rules.specs.{Levers.told_bounds, declared.boundary.Boundaries.Boundaries, declared.refusal.Refusal.Refusal}
use Rattle.std.specs.Prelude.{Result}
use Rattle.export_checks.proofs.Handed.{answer-refused, answer-delivered}
use Rattle.export_bounds.specs.Bounds.{bounds_in}
use Rattle.export_bounds.proofs.bounds_handed.Goals as goal

pub returns-in-Err : goal.returns-in-Err
unfolding bounds_in
returns-in-Err c =
    let told = ap (λ (r : Result Boundaries Refusal). bounds_in (told_bounds r)) c.in-Err.is in
    answer-refused _ _ _ _ refl told c.refusal_word.ensures

pub returns-in-Ok : goal.returns-in-Ok
unfolding bounds_in
returns-in-Ok c =
    answer-delivered _ _ _ _ refl (rw c.in-Ok.is) (rw c.boundary_bytes.ensures at c.hand_bytes.ensures)
