-- `limbs::without` meets its contract, with what is borrowed from the upper limb. Assumes nothing.
use Rattle.rules.proofs.Kit.{◌+◌, ◌≤◌, arith}
use Rattle.limbs.proofs.{Limbs.in_limbs, Limbs.rest_room, Limbs.rest}
use Rattle.limbs.proofs.without.Goals as goal
use Rattle.limbs.proofs.without.Goals.{After-from}

room : (c : After-from) → c.args.b.hi + c.from.result ≤ c.args.a.hi
room c =
    let s = c.args in
    let r = c.borrowing_sub-lo in
    rest_room in_limbs s.a.hi s.a.lo s.b.hi s.b.lo c.from.result r.result.0 (omega (arith, r.type_inv)) (omega arith) c.requires

pub overflow_add-hi : goal.overflow_add-hi
overflow_add-hi c = omega (arith, room c.before)

pub overflow_sub-hi : goal.overflow_sub-hi
overflow_sub-hi c = omega (arith, room c.before.before)

pub returns : goal.returns
returns c = rest in_limbs _ _ _ _ c.from.result _ _ (omega (arith, room c.before.before)) (omega arith)
