-- `limbs::of_one` meets its contract: an upper limb of 0 adds nothing. Assumes nothing.
use Rattle.rules.proofs.Kit.{arith}
use Rattle.limbs.proofs.{Limbs.limbs_is}
use Rattle.limbs.proofs.of_one.Goals as goal

pub returns : goal.returns
returns c = rw limbs_is (omega arith)
