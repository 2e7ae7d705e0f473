-- `kernel_scan::scan_on` meets its contract. The loop's invariant: what is held is what the first i records come to, from the state at the start.
-- Assumes nothing.
use Rattle.rules.proofs.Kit.{◌≡◌, take}
use Rattle.kernel_scan.specs.Places.{placed_from}
use Rattle.kernel_ranking.specs.After.{scan_of}
use Rattle.kernel_scan.proofs.scan_on.Given as goal

abbrev pub invariant-loop-i : goal.invariant-loop-i
invariant-loop-i l = l.state ≡ scan_of l.pricing l.input l.initial.state (take l.i (placed_from l.first l.part))
