-- `stored_layout::allowance_in` meets its contract. Assumes nothing.
use Rattle.rules.proofs.Kit.{ℕ, List, [], ◌≡◌, refl, sym, ◌∙◌, false}
use Rattle.rules.specs.Stored.{left_out, due_faults}
use Rattle.stored_fields.specs.Fields.{Bodied}
use Rattle.stored_fields.proofs.Bodies.{allowance-within, allowance-said}
use Rattle.stored_layout.proofs.{Passing.bodied, Due.due_passed}
use Rattle.stored_layout.proofs.allowance_in.Goals as goal

-- tag 5 stands there, whole
whole : (rest : List ℕ) → left_out 5 rest ≡ false → due_faults 5 rest ≡ [] → Bodied 5 rest
whole rest there e = bodied (due_passed 5 rest there e)

pub u32_at-requires : goal.u32_at-requires
u32_at-requires c = allowance-within 5 _ (whole _ (sym c.is_left_out.ensures ∙ c.if-is_left_out.false) c.requires) refl

pub returns : goal.returns
returns c =
    let there = sym c.is_left_out.ensures ∙ c.if-is_left_out.false in
    rw there (c.u32_at.ensures ∙ sym (allowance-said 5 _ (whole _ there c.requires) refl))
