-- `endian::u16_at` meets its contract: what the library reads is the number of the rule. Assumes nothing.
use Rattle.rules.proofs.Kit.{arith}
use Rattle.rules.specs.Bytes.{number}
use Rattle.endian.proofs.Spelled.{part_said}
use Rattle.endian.proofs.u16_at.Goals as goal

pub returns : goal.returns
unfolding number
returns c =
    let part = rw c.unwrap.ensures at c.try_into.ensures in
    omega (arith, part_said 1 c.args.at c.args.s.now c.unwrap.result c.requires part.1.same)
