-- `program_standing::choice::put_rejection` meets its contract. Assumes nothing.
use Rattle.rules.proofs.Kit.{arith}
use Rattle.rules.specs.{Choice.equal, Text.text, Words.risk_words, Words.confidence_words, Words.rejection_words}
use Rattle.splice.proofs.Pieces.{written, promised_as}
use Rattle.program_standing.proofs.Choices.{none_eligible}
use Rattle.program_standing.proofs.choice.put_rejection.Goals as goal

pub returns-in-RiskHardLimit-clause-out_after : goal.returns-in-RiskHardLimit-clause-out_after
unfolding rejection_words risk_words equal text
returns-in-RiskHardLimit-clause-out_after c = rw c.in-RiskHardLimit.is c.put_stopped.ensures.out_after

pub returns-in-ConfidenceHardLimit-clause-out_after : goal.returns-in-ConfidenceHardLimit-clause-out_after
unfolding rejection_words confidence_words equal text
returns-in-ConfidenceHardLimit-clause-out_after c = rw c.in-ConfidenceHardLimit.is c.put_stopped-in-ConfidenceHardLimit.ensures.out_after

pub returns-in_default : goal.returns-in_default
unfolding text
returns-in_default c =
    let w = rw (c.from.ensures, c.number.ensures) at c.put_remark.ensures in
    record {
      out_after = promised_as (written _ _ _ w.out_after) (none_eligible c.args.policy c.args.input c.args.reason c.in_default.not-RiskHardLimit c.in_default.not-ConfidenceHardLimit);
      upper_bound = omega (arith, w.upper_bound);
    }
