-- `limbs::is_less` meets its contract: the lower limbs decide where the upper ones are level. Assumes nothing.
use Rattle.rules.proofs.Kit.{le_of_lt, arith, ltb-true, ltb-false}
use Rattle.rules.specs.Wide.{val}
use Rattle.limbs.proofs.{Limbs.in_limbs, Limbs.same_upper, Limbs.upper_lt, Limbs.decides}
use Rattle.limbs.proofs.is_less.Goals as goal

pub returns-then-a-b : goal.returns-then-a-b
returns-then-a-b c =
    let s = c.args in
    let e = same_upper in_limbs s.a.hi s.a.lo s.b.hi s.b.lo (omega arith) in
    decides _ (val s.a) (val s.b) (λ h. omega (arith, ltb-true)) (λ h. omega (arith, ltb-false))

pub returns-else-a-b : goal.returns-else-a-b
returns-else-a-b c =
    let s = c.args in
    decides
    _
    (val s.a)
    (val s.b)
    (λ h. upper_lt in_limbs s.a.hi s.a.lo s.b.hi s.b.lo (omega arith) (omega (arith, ltb-true)))
    (λ h. le_of_lt (upper_lt in_limbs s.b.hi s.b.lo s.a.hi s.a.lo (omega arith) (omega (arith, ltb-false))))
