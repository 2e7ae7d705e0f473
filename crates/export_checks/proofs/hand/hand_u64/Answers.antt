-- `export_checks::hand_u64` meets its contract. Assumes nothing.
use Rattle.export_checks.proofs.{Handed.delivered_so}
use Rattle.export_checks.proofs.hand.hand_u64.Goals as goal

pub returns : goal.returns
returns c = delivered_so _ _ c.put64.ensures
