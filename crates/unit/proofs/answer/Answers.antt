-- `unit::answer` meets its contract. Assumes nothing.
use Rattle.rules.proofs.Kit.{◌≤◌, arith, length}
use Rattle.rules.specs.Printed.{unit_text}
use Rattle.program_deliver.proofs.Answers.{printed-counts, printed-whole}
use Rattle.unit.proofs.answer.Goals as goal

pub returns : goal.returns
returns c =
    let u = c.unit_text.ensures in
    let fits : length (unit_text c.args.input.now) ≤ length c.args.out.now = omega (arith, u.2, c.requires) in
    record { prefix_len = printed-counts _ _ fits u.0 u.1 c.end_of.ensures; out_after = printed-whole _ _ fits u.0 u.1 c.end_of.ensures }
