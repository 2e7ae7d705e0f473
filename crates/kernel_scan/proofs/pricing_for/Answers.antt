-- `kernel_scan::pricing_for` meets its contract: a policy and a request of their types leave room. Assumes nothing.
use Rattle.rules.proofs.Kit.{rules}
use Rattle.rules.proofs.Kit.{◌<◌, ◌^◌, arith, ℤ, pos, negsuc, w64, SFits}
use Rattle.rules.specs.Utility.{or_zero}
use Rattle.pricing.proofs.Settled.{settled}
use Rattle.kernel_scan.proofs.pricing_for.Goals as goal

value_low : (z : ℤ) → SFits w64 z → or_zero z < 2 ^ 64
value_low (pos n) f = omega arith
value_low (negsuc n) f = omega arith

pub returns : goal.returns
returns c =
    let q = c.args.input in
    let v = value_low q.business_value_microunits (search rules) in
    (c.pricing_of.ensures, rw c.pricing_of.ensures (settled _ _ v (omega arith) (omega arith)))
