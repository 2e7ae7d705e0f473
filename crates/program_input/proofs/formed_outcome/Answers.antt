-- `program_input::formed_outcome` meets its contract. Assumes nothing.
use Rattle.program_input.specs.Formed.{formed_faults}
use Rattle.program_input.proofs.{Tests.many-refused, Tests.few-pass}
use Rattle.rules.proofs.Faults.{exit_outcome, passed}
use Rattle.program_input.proofs.formed_outcome.Goals as goal

pub returns-in_err-lay_out : goal.returns-in_err-lay_out
unfolding formed_faults
returns-in_err-lay_out c = exit_outcome _ _ _ _ c.from_residual.ensures.1 c.in_err-lay_out.ensures

pub bank_in-requires : goal.bank_in-requires
bank_in-requires c = passed _ c.in_ok-lay_out.ensures

pub returns-then-bank_in-gt-MAX_PROGRAM_MODELS : goal.returns-then-bank_in-gt-MAX_PROGRAM_MODELS
returns-then-bank_in-gt-MAX_PROGRAM_MODELS c =
    many-refused _ (passed _ c.in_ok-lay_out.ensures) c.bank_in.ensures c.if-bank_in-gt-MAX_PROGRAM_MODELS.true

pub returns : goal.returns
returns c = few-pass _ (passed _ c.in_ok-lay_out.ensures) c.bank_in.ensures c.if-bank_in-gt-MAX_PROGRAM_MODELS.false
