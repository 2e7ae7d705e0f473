-- `pricing::settle::widened` meets its contract. Assumes nothing.
use Rattle.rules.proofs.Kit.{arith}
use Rattle.pricing.proofs.{Values.wide_is}
use Rattle.pricing.proofs.settle.widened.Goals as goal

pub returns : goal.returns
returns c = wide_is c.of_one.result _ (omega arith) c.of_one.ensures
