-- `text::put_signed` meets its contract: a size has at most 19 digits. Assumes nothing.
use Rattle.rules.proofs.Kit.{ℕ, ap, ◌∙◌, [], ◌∷◌, ◌++◌, arith, w64, to_z-of_z}
use Rattle.rules.specs.Text.{decimal, signed_decimal}
use Rattle.splice.proofs.Pieces.{written_then, written, promised_as}
use Rattle.text.proofs.{Digits.decimal_nineteen, Digits.signed_up, Digits.signed_down}
use Rattle.text.proofs.put_signed.Goals as goal

pub put_decimal-requires : goal.put_decimal-requires
put_decimal-requires c = omega (arith, decimal_nineteen _ c.unsigned_abs.ensures.bound)

pub returns-then-n-lt0-clause-out_after : goal.returns-then-n-lt0-clause-out_after
returns-then-n-lt0-clause-out_after c =
    promised_as (written_then (written _ _ _ c.put_text-next.ensures.out_after) (written _ _ _ c.put_decimal.ensures))
    (ap (λ (n : ℕ). (45 ∷ []) ++ decimal n) c.unsigned_abs.ensures.value
    ∙ signed_down _ c.if-n-lt0.true
    ∙ ap signed_decimal (to_z-of_z w64 _ c.ranges.n))

pub returns-then-n-lt0-clause-upper_bound : goal.returns-then-n-lt0-clause-upper_bound
returns-then-n-lt0-clause-upper_bound c =
    omega (arith, (written _ _ _ c.put_decimal.ensures).ends, decimal_nineteen _ c.unsigned_abs.ensures.bound)

pub put_decimal-requires-2 : goal.put_decimal-requires-2
put_decimal-requires-2 c = omega (arith, decimal_nineteen _ c.unsigned_abs-2.ensures.bound)

pub returns-clause-out_after : goal.returns-clause-out_after
returns-clause-out_after c =
    promised_as (written _ _ _ c.put_decimal-2.ensures)
    (ap decimal c.unsigned_abs-2.ensures.value ∙ signed_up _ c.if-n-lt0.false ∙ ap signed_decimal (to_z-of_z w64 _ c.ranges.n))

pub returns-clause-upper_bound : goal.returns-clause-upper_bound
returns-clause-upper_bound c =
    omega (arith, (written _ _ _ c.put_decimal-2.ensures).ends, decimal_nineteen _ c.unsigned_abs-2.ensures.bound)
