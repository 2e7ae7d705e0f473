-- `export_live_calls::live_explain_delivered` meets its contract. Assumes nothing.
use Rattle.rules.proofs.Kit.{ℕ, List, [], ◌≡◌, refl, sym, ◌∙◌, arith}
use Rattle.rules.specs.{Records.Listed, Explain.explain_over, Explain.explain_list_over, Slots.live_faults, Slots.live_in, Live.live_explain_of, Live.live_explain_list}
use Rattle.rules.specs.{declared.records.KernelInput.KernelInput, declared.records.PolicySnapshot.PolicySnapshot}
use Rattle.rules.proofs.Faults.{unless_refused}
use Rattle.live_slots.proofs.Told.{number_refused}
use Rattle.explain.specs.Entries.{unrefused}
use Rattle.export_checks.proofs.{Handed.both, Handed.tests-refused, Handed.tests-passed}
use Rattle.export_live_checks.proofs.{Openings.passed}
use Rattle.export_live_calls.proofs.live_explain_delivered.Goals as goal

-- where nothing refuses the bank and its live records are read, they are explained
module _ (p : PolicySnapshot) (q : KernelInput) (bank list : List ℕ) {ls : List Listed} (clean : live_faults bank ≡ []) (read : ls ≡ live_in bank) where
  told : explain_over p q (unrefused ls) list ≡ live_explain_of p q bank list
  unfolding live_explain_of
  told = rw (read, clean)

  listed : explain_list_over p q (unrefused ls) list ≡ live_explain_list p q bank list
  unfolding live_explain_list
  listed = rw (read, clean)

pub returns-in-Err : goal.returns-in-Err
returns-in-Err c =
    let tests = number_refused _ _ _ c.in-Err.ensures in
    both
    (tests-refused _ _ _ _ _ tests c.refusal_word.ensures)
    (sym (unless_refused _ _ _ refl tests))

pub policy_of-requires : goal.policy_of-requires
policy_of-requires c = let is = passed _ _ _ _ c.in-Ok.ensures in is.policy

pub input_of-requires : goal.input_of-requires
input_of-requires c = let is = passed _ _ _ _ c.in-Ok.ensures in is.request

pub explain_among-prescribed-requires : goal.explain_among-prescribed-requires
explain_among-prescribed-requires c = let is = passed _ _ _ _ c.in-Ok.ensures in is.seen

pub decision_handed-requires : goal.decision_handed-requires
decision_handed-requires c = let is = passed _ _ _ _ c.in-Ok.ensures in omega (arith, is.space)

pub returns-in-Ok : goal.returns-in-Ok
returns-in-Ok c =
    let is = passed _ _ _ _ c.in-Ok.ensures in
    let known = c.explain_among-prescribed.ensures in
    both
    (tests-passed _ _ _ _ is.clear (known.answer ∙ rw (c.policy_of.ensures, c.input_of.ensures) (told _ _ _ _ is.clean is.read))
    c.decision_handed.ensures)
    (known.bytes ∙ rw (c.policy_of.ensures, c.input_of.ensures, is.clear) (listed _ _ _ _ is.clean is.read))
