-- `limbs_products::quotient` meets its contract: the upper limb's division leaves its remainder to the lower limb's. Assumes nothing.
use Rattle.rules.proofs.Kit.{arith}
use Rattle.limbs_products.proofs.{Turns.two_quotients}
use Rattle.limbs_products.proofs.quotient.Goals as goal

pub returns : goal.returns
returns c =
    let s = c.args in
    let up = c.divide_limb-upper in
    let down = c.divide_limb-lower in
    two_quotients s.d s.w.hi s.w.lo _ up.result.rem _ down.result.rem up.ensures.0 (omega arith) (omega arith)
