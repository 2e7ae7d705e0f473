-- `export_forms::stored_form_delivered` meets its contract. Assumes nothing.
use Rattle.rules.proofs.Kit.{refl}
use Rattle.rules.specs.Stored.{write_stored_of, write_stored_buffer}
use Rattle.rules.proofs.Faults.{append_refused, passed}
use Rattle.unpacking_policy.proofs.Policies.{policy_sized}
use Rattle.export_checks.proofs.Handed.{tests-refused}
use Rattle.export_forms.proofs.{Answering.written_so}
use Rattle.export_forms.proofs.forms.stored_form_delivered.Goals as goal

pub returns-in-Err : goal.returns-in-Err
returns-in-Err c =
    let tests = append_refused _ _ refl c.in-Err.ensures in
    tests-refused _ _ _ _ _ tests c.refusal_word.ensures

pub policy_of-requires : goal.policy_of-requires
policy_of-requires c = policy_sized _ (passed _ c.in_default.ensures)

pub returns : goal.returns
unfolding write_stored_of write_stored_buffer
returns c =
    rw (passed _ c.in_default.ensures, ← c.policy_of.ensures)
    (written_so _ _ _ (record { is = c.write_stored.ensures.0 }) c.write_stored.ensures.1 c.written_word.ensures)
