-- `export_live_bounds::live_win_delivered` meets its contract. Assumes nothing.
use Rattle.rules.proofs.Kit.{ℕ, List, [], ◌≡◌, ap, ◌∙◌, arith}
use Rattle.rules.specs.{Records.Listed, Slots.live_faults, Slots.live_in, Win.win_in}
use Rattle.rules.specs.{Live.live_what_would_win_of, declared.records.KernelInput.KernelInput, declared.records.PolicySnapshot.PolicySnapshot}
use Rattle.rules.proofs.Slots.{live-few, live-length}
use Rattle.live_slots.proofs.Told.{number_refused}
use Rattle.export_checks.proofs.Handed.{tests-refused, tests-passed}
use Rattle.export_live_checks.proofs.Openings.{passed}
use Rattle.export_bounds.specs.Bounds.{bounds_in}
use Rattle.export_live_bounds.proofs.live_win_delivered.Goals as goal

-- where nothing refuses the bank and its live records are read, the answer is theirs
told : (p : PolicySnapshot) (q : KernelInput) (bank : List ℕ) (id : ℕ) {ls : List Listed} → live_faults bank ≡ [] → ls ≡ live_in bank
    → win_in p q ls id ≡ live_what_would_win_of p q bank id
unfolding live_what_would_win_of
told p q bank id clean read = rw (read, clean)

pub returns-in-Err : goal.returns-in-Err
returns-in-Err c = tests-refused _ _ _ _ _ (number_refused _ _ _ c.in-Err.ensures) c.refusal_word.ensures

pub first_live-found-requires : goal.first_live-found-requires
first_live-found-requires c = let is = passed _ _ _ _ c.in-Ok.ensures in live-few _ is.clean

pub policy_of-requires : goal.policy_of-requires
policy_of-requires c = let is = passed _ _ _ _ c.in-Ok.ensures in is.policy

pub input_of-requires : goal.input_of-requires
input_of-requires c = let is = passed _ _ _ _ c.in-Ok.ensures in is.request

pub win_among-answer-requires : goal.win_among-answer-requires
win_among-answer-requires c = let is = passed _ _ _ _ c.in-Ok.ensures in (c.first_live-found.ensures ∙ rw is.read, is.seen, live-length _ is.clean)

pub bounds_handed-requires : goal.bounds_handed-requires
bounds_handed-requires c = let is = passed _ _ _ _ c.in-Ok.ensures in omega (arith, is.space)

pub returns-in-Ok : goal.returns-in-Ok
returns-in-Ok c =
    let is = passed _ _ _ _ c.in-Ok.ensures in
    tests-passed _ _ _ _ is.clear
    (ap bounds_in (c.win_among-answer.ensures ∙ rw (c.policy_of.ensures, c.input_of.ensures) (told _ _ _ _ is.clean is.read)))
    c.bounds_handed.ensures
