-- `live_edits::raised` meets its contract: an epoch that isn't at its largest has one above it. Assumes nothing.
use Rattle.rules.proofs.Kit.{arith}
use Rattle.live_edits.proofs.{Chosen.epoch_left}
use Rattle.live_edits.proofs.epoch.raised.Goals as goal

pub overflow_add-result : goal.overflow_add-result
overflow_add-result c = omega (arith, epoch_left _ c.requires)
