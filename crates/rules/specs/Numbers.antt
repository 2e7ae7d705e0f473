-- Document 01, "Numbers handed back": what each case of an enum is called there.
use Rattle.std.specs.Prelude.{ℕ, Bool, List, map, eqb, ℤ, pos, Some, None, Result}
use Rattle.std.specs.Prelude as declared
use Rattle.std.proofs.Math.Option.{Option, none, some}
use Rattle.rules.specs.Choice.{equal}
use Rattle.rules.specs.Wide.{val}
use Rattle.rules.specs.declared.records.KernelInput.{KernelInput}
use Rattle.rules.specs.declared.records.PolicySnapshot.{PolicySnapshot}
use Rattle.rules.specs.declared.decision.KernelAction.{KernelAction}
use Rattle.rules.specs.declared.decision.KernelAction.TheVariants as action
use Rattle.rules.specs.declared.decision.KernelReason.{KernelReason}
use Rattle.rules.specs.declared.decision.KernelReason.TheVariants as reason
use Rattle.rules.specs.declared.decision.KernelDecision.{KernelDecision}
use Rattle.rules.specs.declared.decision.DecisionTrace.{DecisionTrace}
use Rattle.rules.specs.declared.verdict.CandidateVerdict.{CandidateVerdict}
use Rattle.rules.specs.declared.verdict.CandidateVerdict.TheVariants as verdict
use Rattle.rules.specs.declared.verdict.UtilityTerms.{UtilityTerms}
use Rattle.rules.specs.declared.boundary.Requirement.{Requirement}
use Rattle.rules.specs.declared.boundary.Boundaries.{Boundaries}
use Rattle.rules.specs.declared.refusal.Refusal.{Refusal}
use Rattle.rules.specs.Refused.{Fault, no_fault, Answer, told_answer}

-- ---- decisions

-- D20. The three actions
abbrev pub action_no : KernelAction → ℕ
action_no action.ExecuteRequested = 1
action_no action.Substitute = 2
action_no action.Reject = 3

-- D1, D2, D20, D24. The reasons
abbrev pub reason_no : KernelReason → ℕ
reason_no reason.RequestedModelMaximizesUtility = 1
reason_no reason.AlternativeMaximizesUtility = 2
reason_no reason.RiskHardLimit = 100
reason_no reason.ConfidenceHardLimit = 101
reason_no reason.NoEnabledModel = 102
reason_no reason.QualityConstraint = 103
reason_no reason.LatencyConstraint = 104
reason_no reason.CapabilityConstraint = 105
reason_no reason.ProviderConstraint = 106
reason_no reason.RegionConstraint = 107
reason_no reason.BudgetConstraint = 108
reason_no reason.NonPositiveUtility = 109
reason_no reason.RiskCeilingConstraint = 110

-- X2. A decision in document 01's numbers, in the order in which it is printed
pub record Decision : Type 0 where
  pub sequence : ℕ
  pub action : ℕ
  pub reason : ℕ
  pub model : ℕ
  pub place : ℕ
  pub cost : ℕ
  pub utility : ℤ
  pub counterfactual : ℕ
  pub counterfactual_utility : ℤ
  pub evaluated : ℕ
  pub eligible : ℕ
  pub policy_epoch : ℕ
  pub catalog_epoch : ℕ

abbrev pub told_decision : KernelDecision → Decision
told_decision d = record {
  sequence = d.request_sequence;
  action = action_no d.action;
  reason = reason_no d.reason;
  model = d.selected_model_id;
  place = d.selected_model_index;
  cost = d.estimated_cost_microunits;
  utility = d.expected_utility_microunits;
  counterfactual = d.counterfactual_model_id;
  counterfactual_utility = d.counterfactual_utility_microunits;
  evaluated = d.evaluated_models;
  eligible = d.eligible_models;
  policy_epoch = d.policy_epoch;
  catalog_epoch = d.catalog_epoch;
}

-- D25. A decision that chose nothing
abbrev pub is_rejection : Decision → Bool
is_rejection d = eqb d.action 3

-- What is said by Some and None
abbrev pub told_option : {A : Type 0} → declared.Option A → Option A
told_option (Some a) = some a
told_option None = none

abbrev pub told_prescribed : Result KernelDecision Refusal → Answer Decision
told_prescribed r = told_answer told_decision r

-- A decision with its counts
pub record DecisionAndTrace : Type 0 where
  pub decision : Decision
  pub trace : DecisionTrace

abbrev pub told_trace : KernelDecision × DecisionTrace → DecisionAndTrace
told_trace x = record { decision = told_decision x.0; trace = x.1 }

abbrev pub told_traced : Result (KernelDecision × DecisionTrace) Refusal → Answer DecisionAndTrace
told_traced r = told_answer told_trace r

-- A number, as a count or a place
abbrev pub told_number : Result ℕ Refusal → Answer ℕ
told_number r = told_answer (λ n. n) r

abbrev pub told_utility : Result ℤ Refusal → Answer ℤ
told_utility r = told_answer (λ u. u) r

abbrev pub told_found : Result (declared.Option ℕ) Refusal → Answer (Option ℕ)
told_found r = told_answer told_option r

-- ---- policies, stored forms

-- O2. What reading a policy's bytes answers
abbrev pub told_policy : Result PolicySnapshot Refusal → Answer PolicySnapshot
told_policy r = told_answer (λ p. p) r

-- B11. What reading a stored form answers: the policy, and how many bytes of models now stand in the buffer
pub record StoredPolicy : Type 0 where
  pub policy : PolicySnapshot
  pub size : ℕ

abbrev pub told_stored : Result (PolicySnapshot × ℕ) Refusal → Answer StoredPolicy
told_stored r = told_answer (λ x. record { policy = x.0; size = x.1 }) r

-- S7. What an edit answers: the policy with its catalogue epoch raised, and beside it the slot, or of a compaction how many records are live
pub record EditedPolicy : Type 0 where
  pub policy : PolicySnapshot
  pub number : ℕ

abbrev pub told_edited : Result (PolicySnapshot × ℕ) Refusal → Answer EditedPolicy
told_edited r = told_answer (λ x. record { policy = x.0; number = x.1 }) r

-- B11. Reading a request form, and writing: how many bytes were written
abbrev pub told_request : Result KernelInput Refusal → Answer KernelInput
told_request r = told_answer (λ q. q) r

abbrev pub told_written : Result ℕ Refusal → Answer ℕ
told_written r = told_number r

-- ---- verdicts

-- B6. What document 01 tells of one record: the verdict's number, the gate's or 0, and the numbers of an explanation record from offset 8 on
pub record Verdict : Type 0 where
  pub kind : ℕ
  pub gate : ℕ
  pub first : ℕ
  pub second : ℕ
  pub cost : ℕ
  pub latency : ℕ
  pub utility : ℤ

-- B6. Verdict 4 is eligible: the first where it is, else the second
abbrev pub where_eligible : {A : Type 0} → Verdict → A → A → A
where_eligible v x y = equal v.kind 4 x y

abbrev pub told_terms : ℕ → UtilityTerms → Verdict
told_terms n t = record {
  kind = n;
  gate = 0;
  first = val t.quality_adjusted;
  second = val t.risk_penalty;
  cost = t.cost_microunits;
  latency = val t.latency_penalty;
  utility = t.utility;
}

-- B7. Verdicts 1 and 2 carry two numbers and no more
abbrev pub two_numbers : ℕ → ℕ → ℕ → ℕ → Verdict
two_numbers n gate first second = record { kind = n; gate = gate; first = first; second = second; cost = 0; latency = 0; utility = pos 0 }

abbrev pub told_verdict : CandidateVerdict → Verdict
told_verdict (verdict.Rejected gate measured limit) = two_numbers 1 gate measured limit
told_verdict (verdict.OverBudget cost limit) = two_numbers 2 0 cost limit
told_verdict (verdict.NonPositiveUtility t) = told_terms 3 t
told_verdict (verdict.Eligible t) = told_terms 4 t

-- X6. The next eligible entry of an explanation, if there is one
abbrev pub told_next : declared.Option ℕ → Option ℕ
told_next o = told_option o

-- ---- boundaries

-- W9, W10. A lever with its number, its value today, its boundary, and the cost there where it is the price
pub record Entry : Type 0 where
  pub lever : ℕ
  pub current : ℕ
  pub boundary : ℕ
  pub cost : Option ℕ

abbrev pub told_cost : declared.Option ℕ → Option ℕ
told_cost o = told_option o

abbrev pub told_entry : Requirement → Entry
told_entry r = record { lever = r.lever; current = r.current; boundary = r.boundary; cost = told_cost r.cost_at_boundary_microunits }

-- The answer of both boundary calls. Its refusal is `no_fault` where it answers
pub record Boundary : Type 0 where
  pub refusal : Option Fault
  pub model : ℕ
  pub decision : Decision
  pub blocked : Bool
  pub levers : List Entry
  pub count : ℕ
  pub passes : ℕ

abbrev pub told_boundaries : Boundaries → Boundary
told_boundaries b = record {
  refusal = no_fault;
  model = b.model_id;
  decision = told_decision b.decision;
  blocked = b.blocked_by_request;
  levers = map told_entry b.levers.levers;
  count = b.levers.count;
  passes = b.levers.passes;
}
