-- `pricing::settle::share_wide` meets its contract: the two shares may be multiplied first. Assumes nothing.
use Rattle.rules.proofs.Kit.{arith}
use Rattle.pricing.proofs.{Values.wide_is, Values.share_of_product}
use Rattle.pricing.proofs.settle.share_wide.Goals as goal

pub returns : goal.returns
returns c = let s = c.args in let e = share_of_product s.value s.a s.b in wide_is c.quotient.result _ (omega arith) cc
