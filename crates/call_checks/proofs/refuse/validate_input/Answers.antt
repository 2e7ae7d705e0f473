-- `call_checks::validate_input` meets its contract. Assumes nothing.
use Rattle.rules.specs.Decide.{request_check}
use Rattle.call_checks.proofs.refuse.validate_input.Goals as goal

pub returns : goal.returns
unfolding request_check
returns c = c.input_outcome.ensures
