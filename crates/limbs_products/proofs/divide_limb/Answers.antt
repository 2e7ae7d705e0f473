-- `limbs_products::divide_limb` meets its contract: the invariant is where the division stands (`Turned`), and a turn keeps it.
-- Assumes nothing.
use Rattle.rules.proofs.Kit.{arith}
use Rattle.limbs_products.proofs.{Turns.turn_zero, Turns.turn_one, Turns.all_turned}
use Rattle.limbs_products.proofs.divide_limb.Goals as goal
use Rattle.limbs_products.proofs.divide_limb.Goals.{else-d-rem, then-d-rem}

pub loop-turn-preserved : goal.loop-turn-preserved
loop-turn-preserved c =
    let t = c.loop-turn.invariant in
    elim c.if-d-rem.branch [ then-d-rem w ↦ turn_one t c.if-d-rem.quotient c.if-d-rem.rem w.if-d-rem.true (omega arith) w.rem-is | else-d-rem w ↦ turn_zero t c.if-d-rem.quotient c.if-d-rem.rem w.if-d-rem.false (omega arith) w.rem-is ]

pub returns : goal.returns
returns c = let t = c.loop-turn.invariant in (all_turned t (omega arith), t.below)
