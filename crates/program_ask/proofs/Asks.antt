-- What refuses a question from the desk, and what it asks. Assumes nothing.
use Rattle.rules.proofs.Kit.{ℕ, ◌≡◌, refl, sym, ap, ◌∙◌, Bool, true, false, List, [], ◌∷◌, Option, none, some, arith, eqb}
use Rattle.std.specs.Prelude.{Result, Ok, Err, ⊤, IsErrAnd}
use Rattle.std.specs.Prelude as prelude
use Rattle.rules.specs.{Records.Listed, Records.listed_of, Refused.Fault, Refused.Faults, Refused.fault, Refused.told_refusal, Refused.no_fault, Refused.refused, Refused.answered, Refused.unless}
use Rattle.rules.specs.{Refused.first_fault, Refused.told_outcome, Refused.told_answer, Numbers.told_option, Numbers.told_boundaries, Numbers.Boundary, Numbers.Decision}
use Rattle.rules.specs.{Choice.pick, Price.Cost, Price.cost_under, Decide.stopped_by, Listing.first_listed, Listing.place_of, Levers.Question, Levers.boundary_of, Levers.selects, Levers.no_search, Levers.told_bounds, Win.win_for, Win.win_by, Win.win_search, Win.win_if_listed}
use Rattle.rules.specs.{Win.what_would_win_of, Stored.stored_policy, Stored.stored_bank}
use Rattle.rules.specs.{Printed.program_models, Printed.program_request, Printed.program_faults, Printed.unlisted_faults, Printed.ask_faults, Printed.asked_of}
use Rattle.rules.specs.{declared.boundary.Boundaries.Boundaries, declared.records.KernelInput.KernelInput, declared.records.PolicySnapshot.PolicySnapshot}
use Rattle.rules.specs.declared.refusal.Refusal.{Refusal}
use Rattle.rules.proofs.Faults.{some_fault, none_first, none_after, passed, exit_outcome}
use Rattle.program_input.specs.Formed.{Formed}
use Rattle.program_input.proofs.Tests.{bank_whole, program_formed}
use Rattle.rules.specs.declared.refusal.Refusal.TheVariants as refusal

-- What refuses the programs' input comes first
pub asking_refused : (o : Result ⊤ Refusal) (r : Refusal) (id : ℕ) (input : List ℕ) → IsErrAnd o (λ e. e ≡ r)
    → told_outcome (Err r) ≡ first_fault (program_faults input) → told_outcome o ≡ first_fault (ask_faults id input)
unfolding ask_faults
asking_refused o r id input h told = exit_outcome o r _ _ h told

pub asking_passed : (id : ℕ) (input : List ℕ) → ask_faults id input ≡ [] → program_faults input ≡ []
unfolding ask_faults
asking_passed id input e = none_first (program_faults input) _ e

-- so a question that passes has an input that is formed
pub asking_formed : {u : ⊤} (id : ℕ) (input : List ℕ) → told_outcome (Ok u) ≡ first_fault (ask_faults id input) → Formed input
asking_formed id input told = program_formed input (asking_passed id input (passed (ask_faults id input) told))

-- THEN 5, where the id isn't listed
listed_none : {place : ℕ} (o : Option Listed) → place_of o ≡ some place → unlisted_faults o ≡ []
listed_none none e = absurd (let z : ◌≡◌ {A = ℕ} 0 1 = cc in omega arith)
listed_none (some l) e = refl

unlisted_five : (o : Option Listed) → place_of o ≡ none → unlisted_faults o ≡ fault 5 ∷ []
unlisted_five none e = refl
unlisted_five (some l) e = absurd (let z : ◌≡◌ {A = ℕ} 0 1 = cc in omega arith)

module _ (f : prelude.Option ℕ) {bank : List ℕ} (id : ℕ) (input : List ℕ) (passes : program_faults input ≡ []) (models : bank ≡ stored_bank input)
    (told : told_option f ≡ place_of (first_listed id (listed_of bank))) where
  here : told_option f ≡ place_of (first_listed id (program_models input))
  here = told ∙ ap (λ (b : List ℕ). place_of (first_listed id (listed_of b))) models

  pub asking-listed : {place : ℕ} → f ≡ prelude.Some place → told_outcome (Ok tt) ≡ first_fault (ask_faults id input)
  unfolding ask_faults told_outcome first_fault
  asking-listed {place} e = rw (passes, listed_none (first_listed id (program_models input)) (sym here ∙ ap told_option e))

  pub asking-unlisted : f ≡ prelude.None → told_outcome (Err refusal.UnknownModel) ≡ first_fault (ask_faults id input)
  unfolding ask_faults told_outcome first_fault
  asking-unlisted e = rw (passes, unlisted_five (first_listed id (program_models input)) (sym here ∙ ap told_option e))

-- WHAT IS ASKED is what would win
pub win_told : {b : Boundary} {p : PolicySnapshot} {q : KernelInput} {bank : List ℕ} (id : ℕ) (input : List ℕ) → Formed input
    → p ≡ stored_policy input → q ≡ program_request input → bank ≡ stored_bank input → b ≡ what_would_win_of p q bank id → b ≡ asked_of id input
unfolding what_would_win_of
win_told {b} {p} {q} {bank} id input formed policy request models e =
    e ∙ (λ i. what_would_win_of (policy i) (request i) (models i) id) ∙ rw (bank_whole input formed)

-- and no refusal, where the id is listed
for_clear : (a : Question) (d : Decision) → (win_for a d).refusal ≡ no_fault
unfolding win_for boundary_of
for_clear a d = go (eqb (stopped_by a.policy a.request) 0) (selects a.id d)
  where
    go : (free chosen : Bool)
        → (pick free (λ _. pick chosen (λ _. boundary_of a.id d false no_search) (λ _. boundary_of a.id d false (win_search a))) (λ _. boundary_of a.id d true no_search)).refusal
        ≡ no_fault
    go true true = refl
    go true false = refl
    go false chosen = refl

if_listed_clear : (costs : Cost) (p : PolicySnapshot) (q : KernelInput) (ls : List Listed) (id : ℕ) (o : Option Listed) → unlisted_faults o ≡ []
    → (win_if_listed costs p q ls id o).refusal ≡ no_fault
if_listed_clear costs p q ls id none e = some_fault e
if_listed_clear costs p q ls id (some l) e = for_clear _ _

asked_clear : (id : ℕ) (input : List ℕ) → ask_faults id input ≡ [] → (asked_of id input).refusal ≡ no_fault
unfolding ask_faults win_by
asked_clear id input e =
    if_listed_clear (cost_under (stored_policy input)) (stored_policy input) (program_request input) (program_models input) id
    (first_listed id (program_models input)) (none_after (program_faults input) _ e)

pub answer_told : (r : Result Boundaries Refusal) (id : ℕ) (input : List ℕ) → ask_faults id input ≡ [] → told_bounds r ≡ asked_of id input
    → told_answer told_boundaries r ≡ unless (ask_faults id input) refused (answered (asked_of id input))
answer_told (Ok b) id input clear e = rw clear (ap answered e)
answer_told (Err k) id input clear e =
    let z : ◌≡◌ {A = Option Fault} (some (told_refusal k)) no_fault = ap (λ (b : Boundary). b.refusal) e ∙ asked_clear id input clear in
    cc

-- ---- an answer that is told so: either nothing refuses it and it is the one owed, or its refusal is the first

pub answer_passed : {A : Type 0} (a x : A) (fs : Faults) → answered a ≡ unless fs refused (answered x) → (fs ≡ []) × (a ≡ x)
answer_passed a x [] e = (refl, cc)
answer_passed a x (f ∷ fs) e = (cc, cc)

pub answer_refused : {A B : Type 0} (f : Fault) (x : A) (fs : Faults) (told : Fault → B) (b : B) → refused f ≡ unless fs refused (answered x) → told f ≡ unless fs told b
answer_refused f x [] told b e = cc
answer_refused f x (g ∷ gs) told b e = cc
