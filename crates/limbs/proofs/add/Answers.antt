-- `limbs::add` meets its contract, with what is carried into the upper limb. Assumes nothing.
use Rattle.rules.proofs.Kit.{◌^◌, ◌+◌, ◌<◌, arith}
use Rattle.limbs.proofs.{Limbs.in_limbs, Limbs.sum_room, Limbs.sum}
use Rattle.limbs.proofs.add.Goals as goal
use Rattle.limbs.proofs.add.Goals.{After-from}

room : (c : After-from) → c.args.a.hi + c.args.b.hi + c.from.result < 2 ^ 62
room c = let s = c.args in sum_room in_limbs s.a.hi s.a.lo s.b.hi s.b.lo (2 ^ 62) c.from.result c.carrying_add-lo.result.0 (omega arith) c.requires

pub overflow_add-hi : goal.overflow_add-hi
overflow_add-hi c = omega (arith, room c.before)

pub overflow_add-hi-2 : goal.overflow_add-hi-2
overflow_add-hi-2 c = omega (arith, room c.before.before)

pub returns : goal.returns
returns c = sum in_limbs _ _ _ _ c.from.result _ _ (omega arith) (omega arith)
