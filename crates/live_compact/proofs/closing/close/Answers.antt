-- `live_compact::close` meets its contract: closed, then cleared. Assumes nothing.
use Rattle.rules.proofs.Kit.{arith}
use Rattle.live_compact.proofs.{Gaps.cleared, Gaps.live_fits}
use Rattle.live_compact.proofs.closing.close.Goals as goal

-- the live records fit
pub overflow_mul-live : goal.overflow_mul-live
overflow_mul-live c = omega (arith, live_fits c.args.bank.now _ c.closed-live.ensures.live)

pub slice_bounds-fill-count : goal.slice_bounds-fill-count
slice_bounds-fill-count c = omega (arith, live_fits c.args.bank.now _ c.closed-live.ensures.live)

pub slice_bounds-fill-start : goal.slice_bounds-fill-start
slice_bounds-fill-start c = omega (arith, live_fits c.args.bank.now _ c.closed-live.ensures.live)

pub returns : goal.returns
returns c = cleared _ _ _ _ c.requires c.closed-live.ensures.live c.closed-live.ensures.exit (c.fill.ensures.after (λ y e. e))
