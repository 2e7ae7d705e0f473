-- `limbs_products::divide_limb` meets its contract: the invariant is where the division stands (`Turned`), and a turn keeps it.
-- Assumes nothing.
use Rattle.rules.specs.Wide.{limbs}
use Rattle.limbs_products.proofs.{Turns.Turned}
use Rattle.limbs_products.proofs.divide_limb.Given as goal

abbrev pub invariant-loop-turn : goal.invariant-loop-turn
invariant-loop-turn l = Turned (limbs l.carried l.limb) l.d l.quotient l.rem l.rest l._turn
