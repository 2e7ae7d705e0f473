-- `export_boundary_bytes::lever_bytes` meets its contract. Assumes nothing.
use Rattle.rules.proofs.Kit.{◌≡◌, refl, ap, ◌∙◌, ℕ}
use Rattle.rules.specs.Numbers.{told_cost}
use Rattle.std.specs.Prelude.{Option, Some, None}
use Rattle.std.specs.Option.{is_some, unwrap_or}
use Rattle.std.specs.Int.{from_bool}
use Rattle.export_boundary_bytes.specs.Layout.{lever_bytes, has_cost_no, cost_or}
use Rattle.export_boundary_bytes.proofs.lever_bytes.Goals as goal

has_cost : (o : Option ℕ) → from_bool (is_some o) ≡ has_cost_no (told_cost o)
has_cost (Some n) = refl
has_cost None = refl

cost_is : (o : Option ℕ) → unwrap_or o 0 ≡ cost_or (told_cost o)
cost_is (Some n) = refl
cost_is None = refl

pub returns : goal.returns
unfolding lever_bytes
returns c =
    let o = c.args.requirement.cost_at_boundary_microunits in
    rw (c.from.ensures, c.from-2.ensures ∙ ap from_bool c.is_some.ensures ∙ has_cost o, c.unwrap_or.ensures ∙ cost_is o) at c.put_packed.ensures
