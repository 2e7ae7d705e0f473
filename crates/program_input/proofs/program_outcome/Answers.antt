-- `program_input::program_outcome` meets its contract. Assumes nothing.
use Rattle.rules.proofs.Kit.{sym, ap, ◌∙◌}
use Rattle.rules.specs.Refused.{first_fault}
use Rattle.program_input.proofs.{Tests.formed_whole, Tests.formed_refused, Tests.program_left}
use Rattle.rules.proofs.Faults.{exit_outcome, passed}
use Rattle.program_input.proofs.program_outcome.Goals as goal

pub returns-in_err-formed_outcome : goal.returns-in_err-formed_outcome
returns-in_err-formed_outcome c = formed_refused _ _ _ c.from_residual.ensures.1 c.in_err-formed_outcome.ensures

pub policy_in-requires : goal.policy_in-requires
policy_in-requires c = formed_whole _ (passed _ c.in_ok-formed_outcome.ensures)

pub bank_in-requires : goal.bank_in-requires
bank_in-requires c = formed_whole _ (passed _ c.in_ok-formed_outcome.ensures)

pub returns-in_err-catalog_outcome : goal.returns-in_err-catalog_outcome
returns-in_err-catalog_outcome c =
    exit_outcome _ _ _ _ c.from_residual-in_err-catalog_outcome.ensures.1 c.in_err-catalog_outcome.ensures
    ∙ ap first_fault (sym (program_left _ (passed _ c.in_ok-formed_outcome.ensures) c.policy_in.ensures c.bank_in.ensures))

pub request_in-requires : goal.request_in-requires
request_in-requires c = formed_whole _ (passed _ c.in_ok-formed_outcome.ensures)

pub returns : goal.returns
returns c =
    rw (
      program_left _ (passed _ c.in_ok-formed_outcome.ensures) c.policy_in.ensures c.bank_in.ensures,
      passed _ c.in_ok-catalog_outcome.ensures,
      ← c.request_in.ensures,
    )
    c.input_outcome.ensures
