-- `text::put_decimal` meets its contract: its measure is the number. Assumes nothing.
use Rattle.rules.proofs.Kit.{ℕ, ◌/◌, sym, ap, ◌∙◌, [], ◌∷◌, ◌++◌, arith}
use Rattle.rules.specs.Text.{decimal}
use Rattle.splice.proofs.Pieces.{written_then, written, promised_as}
use Rattle.text.proofs.Digits.{decimal_one, decimal_more, one_length, more_length}
use Rattle.text.proofs.+put_decimal.Goals as goal

pub put_byte-requires : goal.put_byte-requires
put_byte-requires t c = omega (arith, one_length c.args.n c.if-n-lt10.true)

pub returns-then-n-lt10 : goal.returns-then-n-lt10
returns-then-n-lt10 t c =
    promised_as (written _ _ _ c.put_byte.ensures.out_after)
    (ap (λ (v : ℕ). v ∷ []) c.digit-last.ensures ∙ sym (decimal_one _ c.if-n-lt10.true))

pub put_decimal-next-requires : goal.put_decimal-next-requires
put_decimal-next-requires t c = (omega arith, omega (arith, more_length c.args.n c.if-n-lt10.false))

pub put_byte-requires-2 : goal.put_byte-requires-2
put_byte-requires-2 t c =
    omega (
      arith,
      more_length c.args.n c.if-n-lt10.false,
      (written _ _ _ c.put_decimal-next.ensures).ends,
      c.put_decimal-next.auto.out,
    )

pub returns : goal.returns
returns t c =
    promised_as (written_then (written _ _ _ c.put_decimal-next.ensures) (written _ _ _ c.put_byte-2.ensures.out_after))
    (ap (λ (v : ℕ). decimal (c.args.n / 10) ++ (v ∷ [])) c.digit-last.ensures ∙ sym (decimal_more _ c.if-n-lt10.false))
