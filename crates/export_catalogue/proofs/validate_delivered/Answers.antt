-- `export_catalogue::validate_delivered` meets its contract. Assumes nothing.
use Rattle.rules.proofs.Kit.{refl, ap, ◌∙◌}
use Rattle.rules.specs.{Refused.told_outcome, Validate.validate_of}
use Rattle.rules.proofs.Faults.{append_refused, passed}
use Rattle.unpacking_policy.proofs.Policies.{policy_sized}
use Rattle.export_checks.specs.Checks.{word_of}
use Rattle.export_catalogue.proofs.validate_delivered.Goals as goal

pub returns-in-Err : goal.returns-in-Err
unfolding told_outcome
returns-in-Err c = c.refusal_word.ensures ∙ ap word_of (append_refused _ _ refl c.in-Err.ensures)

pub policy_of-requires : goal.policy_of-requires
policy_of-requires c = policy_sized _ (passed _ c.in_default.ensures)

pub returns : goal.returns
unfolding validate_of
returns c =
    c.outcome_word.ensures ∙ ap word_of c.validate.ensures ∙ rw (c.policy_of.ensures, passed _ c.in_default.ensures)
