-- `program_phrases::put_number` meets its contract. Assumes nothing.
use Rattle.rules.proofs.Kit.{arith}
use Rattle.text.proofs.Digits.{decimal_twenty}
use Rattle.splice.proofs.Pieces.{written, promised}
use Rattle.program_phrases.proofs.put_number.Goals as goal

pub put_decimal-requires : goal.put_decimal-requires
put_decimal-requires c = omega (arith, decimal_twenty c.args.n c.ranges.n.fits, c.requires)

pub returns : goal.returns
returns c =
    let w = written _ _ _ c.put_decimal.ensures in
    record { out_after = promised w; upper_bound = omega (arith, w.ends, decimal_twenty c.args.n c.ranges.n.fits) }
