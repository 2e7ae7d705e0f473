-- What document 01 tells of an answer determines the answer: every `told..` of specs/Numbers.antt has a way back. Assumes nothing.
use Rattle.rules.proofs.Kit.{ℕ, ◌-◌, ◌≡◌, refl, sym, ap, ap₂, ◌∙◌, List, [], ◌∷◌, map, Option, none, some, get_or}
use Rattle.rules.specs.{Refused.Fault, Refused.told_refusal, Refused.told_outcome, Refused.Answer, Refused.refused, Refused.answered, Refused.told_answer}
use Rattle.rules.specs.{Numbers.action_no, Numbers.reason_no, Numbers.Decision, Numbers.told_decision, Numbers.told_prescribed, Numbers.DecisionAndTrace}
use Rattle.rules.specs.{Numbers.told_traced, Numbers.told_utility, Numbers.told_found, Numbers.told_next, Numbers.Entry, Numbers.told_option}
use Rattle.rules.specs.{Numbers.told_entry}
use Rattle.rules.specs.{Numbers.Boundary, Numbers.told_boundaries, Numbers.told_trace, Levers.told_bounds, declared.refusal.Refusal.Refusal}
use Rattle.rules.specs.{declared.decision.KernelAction.KernelAction, declared.decision.KernelReason.KernelReason}
use Rattle.rules.specs.{declared.decision.KernelDecision.KernelDecision, declared.decision.DecisionTrace.DecisionTrace}
use Rattle.rules.specs.{declared.boundary.Requirement.Requirement, declared.boundary.Boundaries.Boundaries}
use Rattle.rules.specs.declared.refusal.Refusal.TheVariants as refusal
use Rattle.rules.specs.declared.decision.KernelAction.TheVariants as action
use Rattle.rules.specs.declared.decision.KernelReason.TheVariants as reason
use Rattle.std.specs.Prelude.{⊤, Result, Ok, Err, Some, None}
use Rattle.std.specs.Prelude as declared

-- ANY TWO PERMITTED ANSWERS ARE EQUAL: where what is told has a way back, two answers that are told alike are one
pub one_answer : {A B : Type 0} (told : A → B) (back : B → A) → ((a : A) → back (told a) ≡ a) → (rule : B) (r s : A) → told r ≡ rule → told s ≡ rule → r ≡ s
one_answer told back way rule r s p q = sym (way r) ∙ ap back (p ∙ sym q) ∙ way s

-- ---- refusals

abbrev pub refusal_from : Fault → Refusal
refusal_from f =
    get_or
    (refusal.UnevenBank
    ∷ refusal.UnevenBank
    ∷ refusal.CatalogTooLarge
    ∷ refusal.InputOutOfRange f.field f.value f.place
    ∷ refusal.NoRoom
    ∷ refusal.UnknownModel
    ∷ refusal.NothingSelected
    ∷ refusal.NotEligible
    ∷ refusal.BeyondBank
    ∷ refusal.UnevenBank
    ∷ refusal.PolicyOutOfRange f.field f.value
    ∷ refusal.EmptyCatalog
    ∷ refusal.DuplicateModelId f.id
    ∷ refusal.InvalidProviderId f.id f.value
    ∷ refusal.ModelOutOfRange f.field f.id f.value
    ∷ refusal.NoEnabledModels
    ∷ refusal.ReservedModelId
    ∷ refusal.InvalidEnabledFlag f.id f.value
    ∷ refusal.TooManyToStore
    ∷ refusal.TooManyForProgram
    ∷ refusal.CutShort
    ∷ refusal.WrongTag
    ∷ refusal.WrongLength
    ∷ refusal.UnknownRounding
    ∷ refusal.UnevenBank
    ∷ refusal.ZeroAllowance
    ∷ refusal.UnevenBank
    ∷ refusal.EpochSpent
    ∷ refusal.NoFreeSlot
    ∷ refusal.UnevenBank
    ∷ refusal.UnevenBank
    ∷ refusal.UnevenBank
    ∷ refusal.UnevenBank
    ∷ refusal.UnevenBank
    ∷ refusal.SlotNotClear
    ∷ [])
    f.number
    refusal.UnevenBank

pub refusal_back : (r : Refusal) → refusal_from (told_refusal r) ≡ r
refusal_back refusal.UnevenBank = refl
refusal_back refusal.CatalogTooLarge = refl
refusal_back (refusal.InputOutOfRange field value place) = refl
refusal_back refusal.NoRoom = refl
refusal_back refusal.UnknownModel = refl
refusal_back refusal.NothingSelected = refl
refusal_back refusal.NotEligible = refl
refusal_back refusal.BeyondBank = refl
refusal_back (refusal.PolicyOutOfRange field value) = refl
refusal_back refusal.EmptyCatalog = refl
refusal_back (refusal.DuplicateModelId id) = refl
refusal_back (refusal.InvalidProviderId id provider) = refl
refusal_back (refusal.ModelOutOfRange field id value) = refl
refusal_back refusal.NoEnabledModels = refl
refusal_back refusal.ReservedModelId = refl
refusal_back (refusal.InvalidEnabledFlag id value) = refl
refusal_back refusal.TooManyToStore = refl
refusal_back refusal.TooManyForProgram = refl
refusal_back refusal.CutShort = refl
refusal_back refusal.WrongTag = refl
refusal_back refusal.WrongLength = refl
refusal_back refusal.UnknownRounding = refl
refusal_back refusal.ZeroAllowance = refl
refusal_back refusal.EpochSpent = refl
refusal_back refusal.NoFreeSlot = refl
refusal_back refusal.SlotNotClear = refl

abbrev pub outcome_from : Option Fault → Result ⊤ Refusal
outcome_from none = Ok tt
outcome_from (some f) = Err (refusal_from f)

pub outcome_back : (o : Result ⊤ Refusal) → outcome_from (told_outcome o) ≡ o
unfolding told_outcome
outcome_back (Ok _) = refl
outcome_back (Err r) = ap Err (refusal_back r)

-- An answer, where what stands in it has a way back
abbrev pub answer_from : {A B : Type 0} → (B → A) → Answer B → Result A Refusal
answer_from back (refused f) = Err (refusal_from f)
answer_from back (answered b) = Ok (back b)

pub answer_back : {A B : Type 0} (told : A → B) (back : B → A) → ((a : A) → back (told a) ≡ a) → (r : Result A Refusal)
    → answer_from back (told_answer told r) ≡ r
answer_back told back way (Ok a) = ap Ok (way a)
answer_back told back way (Err r) = ap Err (refusal_back r)

abbrev pub option_from : {A : Type 0} → Option A → declared.Option A
option_from none = None
option_from (some a) = Some a

pub option_back : {A : Type 0} (o : declared.Option A) → option_from (told_option o) ≡ o
option_back None = refl
option_back (Some a) = refl

-- ---- decisions

abbrev pub action_from : ℕ → KernelAction
action_from n = get_or (action.Reject ∷ action.ExecuteRequested ∷ action.Substitute ∷ []) n action.Reject

action_back : (a : KernelAction) → action_from (action_no a) ≡ a
action_back action.ExecuteRequested = refl
action_back action.Substitute = refl
action_back action.Reject = refl

-- 1 and 2 stand before those from 100 on
abbrev pub reason_from : ℕ → KernelReason
reason_from n =
    get_or (get_or from_hundred (n - 100) reason.NoEnabledModel ∷ reason.RequestedModelMaximizesUtility ∷ reason.AlternativeMaximizesUtility ∷ []) n
    (get_or from_hundred (n - 100) reason.NoEnabledModel)
  where
    from_hundred : List KernelReason
    from_hundred =
        reason.RiskHardLimit
        ∷ reason.ConfidenceHardLimit
        ∷ reason.NoEnabledModel
        ∷ reason.QualityConstraint
        ∷ reason.LatencyConstraint
        ∷ reason.CapabilityConstraint
        ∷ reason.ProviderConstraint
        ∷ reason.RegionConstraint
        ∷ reason.BudgetConstraint
        ∷ reason.NonPositiveUtility
        ∷ reason.RiskCeilingConstraint
        ∷ []

reason_back : (r : KernelReason) → reason_from (reason_no r) ≡ r
reason_back reason.RequestedModelMaximizesUtility = refl
reason_back reason.AlternativeMaximizesUtility = refl
reason_back reason.RiskHardLimit = refl
reason_back reason.ConfidenceHardLimit = refl
reason_back reason.NoEnabledModel = refl
reason_back reason.QualityConstraint = refl
reason_back reason.LatencyConstraint = refl
reason_back reason.CapabilityConstraint = refl
reason_back reason.ProviderConstraint = refl
reason_back reason.RegionConstraint = refl
reason_back reason.BudgetConstraint = refl
reason_back reason.NonPositiveUtility = refl
reason_back reason.RiskCeilingConstraint = refl

abbrev pub decision_from : Decision → KernelDecision
decision_from d =
    record {
      request_sequence = d.sequence;
      action = action_from d.action;
      reason = reason_from d.reason;
      selected_model_id = d.model;
      selected_model_index = d.place;
      estimated_cost_microunits = d.cost;
      expected_utility_microunits = d.utility;
      counterfactual_model_id = d.counterfactual;
      counterfactual_utility_microunits = d.counterfactual_utility;
      evaluated_models = d.evaluated;
      eligible_models = d.eligible;
      policy_epoch = d.policy_epoch;
      catalog_epoch = d.catalog_epoch;
    }

pub decision_back : (d : KernelDecision) → decision_from (told_decision d) ≡ d
decision_back d = rw (action_back d.action, reason_back d.reason)

abbrev pub traced_from : DecisionAndTrace → KernelDecision × DecisionTrace
traced_from a = (decision_from a.decision, a.trace)

pub traced_back : (x : KernelDecision × DecisionTrace) → traced_from (told_trace x) ≡ x
traced_back x = ap (λ d. (d, x.1)) (decision_back x.0)

-- ---- boundaries

abbrev pub entry_from : Entry → Requirement
entry_from e =
    record {
      lever = e.lever;
      current = e.current;
      boundary = e.boundary;
      cost_at_boundary_microunits = option_from e.cost;
    }

entry_back : (r : Requirement) → entry_from (told_entry r) ≡ r
entry_back r = rw (option_back r.cost_at_boundary_microunits)

entries_back : (rs : List Requirement) → map entry_from (map told_entry rs) ≡ rs
entries_back [] = refl
entries_back (r ∷ rs) = ap₂ ◌∷◌ (entry_back r) (entries_back rs)

abbrev pub boundaries_from : Boundary → Boundaries
boundaries_from b =
    record {
      model_id = b.model;
      decision = decision_from b.decision;
      blocked_by_request = b.blocked;
      levers = record { levers = map entry_from b.levers; count = b.count; passes = b.passes };
    }

pub boundaries_back : (b : Boundaries) → boundaries_from (told_boundaries b) ≡ b
boundaries_back b =
    rw (decision_back b.decision, entries_back b.levers.levers)

abbrev pub bounds_by : Option Fault → Boundary → Result Boundaries Refusal
bounds_by none b = Ok (boundaries_from b)
bounds_by (some f) b = Err (refusal_from f)

abbrev pub bounds_from : Boundary → Result Boundaries Refusal
bounds_from b = bounds_by b.refusal b

pub bounds_back : (r : Result Boundaries Refusal) → bounds_from (told_bounds r) ≡ r
bounds_back (Ok b) = ap Ok (boundaries_back b)
bounds_back (Err r) = ap Err (refusal_back r)

-- ---- one law for each type that a call answers; a call's promise is the rule that it cites

abbrev pub Same : {A B : Type 0} → (A → B) → B → Type 0
Same {A} told rule = (r s : A) → told r ≡ rule → told s ≡ rule → r ≡ s

abbrev pub Determined : {A B : Type 0} → (A → B) → Type 0
Determined {A} {B} told = (rule : B) → Same told rule

-- where an answer itself is promised
pub one_itself : {A : Type 0} → Determined (λ (a : A). a)
one_itself rule r s p q = p ∙ sym q

pub one_outcome : Determined told_outcome
one_outcome = one_answer told_outcome outcome_from outcome_back

pub one_prescribed : Determined told_prescribed
one_prescribed = one_answer told_prescribed (answer_from decision_from) (answer_back told_decision decision_from decision_back)

pub one_traced : Determined told_traced
one_traced = one_answer told_traced (answer_from traced_from) (answer_back _ traced_from traced_back)

pub one_utility : Determined told_utility
one_utility = one_answer told_utility (answer_from (λ u. u)) (answer_back _ (λ u. u) (λ u. refl))

pub one_found : Determined told_found
one_found = one_answer told_found (answer_from option_from) (answer_back told_option option_from option_back)

pub one_next : Determined told_next
one_next = one_answer told_next option_from option_back

pub one_boundaries : Determined told_boundaries
one_boundaries = one_answer told_boundaries boundaries_from boundaries_back

pub one_bounds : Determined told_bounds
one_bounds = one_answer told_bounds bounds_from bounds_back

-- and for what a call tells that isn't refused
pub one_trace : Determined told_trace
one_trace = one_answer told_trace traced_from traced_back
