-- `limbs::held` meets its contract: with an upper limb of 0 the number is its lower limb, else it is above a u64's.
-- Assumes nothing.
use Rattle.rules.proofs.Kit.{arith}
use Rattle.limbs.proofs.{Limbs.in_limbs, Limbs.one_digit, Limbs.two_digits}
use Rattle.limbs.proofs.held.Goals as goal

pub returns-then-w-eq0 : goal.returns-then-w-eq0
returns-then-w-eq0 c = let w = c.args.w in omega (arith, one_digit in_limbs w.hi w.lo (omega arith))

pub returns-else-w-eq0 : goal.returns-else-w-eq0
returns-else-w-eq0 c = let w = c.args.w in omega (arith, two_digits in_limbs w.hi w.lo (λ e. omega arith))
