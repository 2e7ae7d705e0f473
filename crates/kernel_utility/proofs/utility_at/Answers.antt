-- `kernel_utility::utility_at` meets its contract. Assumes nothing.
use Rattle.rules.proofs.Kit.{◌+◌, ◌*◌, ◌≤◌, ◌∙◌, arith, length}
use Rattle.kernel_utility.proofs.{Singles.only_room, Singles.only_worth}
use Rattle.kernel_utility.proofs.utility_at.Goals as goal

pub scan_on-requires : goal.scan_on-requires
scan_on-requires c = (c.pricing_for.ensures.1, only_room _ _ (omega arith) _ c.requires.0 c.start.ensures c.requires.1)

pub returns : goal.returns
returns c =
    let inside : 47 * c.args.place + 47 ≤ length c.args.bank.now = omega arith in
    c.worth_of.ensures ∙ only_worth _ _ inside _ _ c.pricing_for.ensures.0 c.start.ensures (rw c.from-at.ensures at c.scan_on.ensures)
