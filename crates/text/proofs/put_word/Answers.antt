-- `text::put_word` meets its contract. Assumes nothing.
use Rattle.rules.proofs.Kit.{arith}
use Rattle.splice.proofs.Pieces.{written_then, written, promised_as}
use Rattle.text.proofs.{Digits.decimal_twenty, Words.spaced_one}
use Rattle.text.proofs.put_word.Goals as goal

pub put_decimal-requires : goal.put_decimal-requires
put_decimal-requires c = omega (arith, decimal_twenty c.args.n c.ranges.n.fits)

pub returns-clause-out_after : goal.returns-clause-out_after
returns-clause-out_after c =
    promised_as (written_then (written _ _ _ c.put_text-next.ensures.out_after) (written _ _ _ c.put_decimal.ensures)) (spaced_one _)

pub returns-clause-upper_bound : goal.returns-clause-upper_bound
returns-clause-upper_bound c = omega (arith, (written _ _ _ c.put_decimal.ensures).ends, decimal_twenty c.args.n c.ranges.n.fits)
