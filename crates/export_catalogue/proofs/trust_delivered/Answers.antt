-- `export_catalogue::trust_delivered` meets its contract. Assumes nothing.
use Rattle.rules.proofs.Kit.{refl, sym, ap, ◌∙◌}
use Rattle.rules.specs.{Refused.told_outcome, Trust.trust_of, Trust.trust_bank}
use Rattle.rules.proofs.Faults.{append_refused, unless_refused, passed}
use Rattle.unpacking_policy.proofs.Policies.{policy_sized}
use Rattle.export_checks.specs.Checks.{word_of}
use Rattle.export_checks.proofs.Handed.{both}
use Rattle.export_catalogue.proofs.trust_delivered.Goals as goal

-- a refused policy leaves the bank, whatever is tested after it
pub returns-in-Err : goal.returns-in-Err
unfolding told_outcome
returns-in-Err c =
    both
    (c.refusal_word.ensures ∙ ap word_of (append_refused _ _ refl c.in-Err.ensures))
    (sym (unless_refused _ (λ f. c.args.bank.now) _ refl (append_refused _ _ refl c.in-Err.ensures)))

pub policy_of-requires : goal.policy_of-requires
policy_of-requires c = policy_sized _ (passed _ c.in_default.ensures)

pub returns : goal.returns
unfolding trust_of trust_bank
returns c =
    let none = passed _ c.in_default.ensures in
    both
    (c.outcome_word.ensures ∙ ap word_of c.trust.ensures.0 ∙ rw (c.policy_of.ensures, none))
    (c.trust.ensures.1 ∙ rw none)
