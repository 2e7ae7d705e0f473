-- `counterfactual_search::halved` meets its contract: each turn is a step of the halving. Assumes nothing.
use Rattle.rules.proofs.Kit.{arith, sym}
use Rattle.counterfactual_search.proofs.{Halves.one_step, Halves.step_middle, Halves.at_last, Halves.few_so_far}
use Rattle.counterfactual_search.proofs.search.halved.Goals as goal

pub wins-won-requires : goal.wins-won-requires
wins-won-requires c = omega (arith, step_middle _ _ _ _ c.loop-low.invariant (omega arith) c.middle-mid.ensures, c.requires.within.fits)

pub kept-requires : goal.kept-requires
kept-requires c =
    omega (arith, step_middle _ _ _ _ c.loop-low.invariant (omega arith) c.middle-mid.ensures, c.requires.within.high_narrow)

pub overflow_add-passes : goal.overflow_add-passes
overflow_add-passes c = omega (arith, few_so_far _ _ _ _ c.loop-low.invariant c.requires.within.high_narrow)

pub loop-low-preserved : goal.loop-low-preserved
loop-low-preserved c =
    rw c.kept.ensures (one_step _ _ _ _ c.wins-won.result c.loop-low.invariant (omega arith) c.middle-mid.ensures (sym c.wins-won.ensures))

pub returns : goal.returns
returns c = at_last _ _ _ _ c.loop-low.invariant c.loop-low-test.false
