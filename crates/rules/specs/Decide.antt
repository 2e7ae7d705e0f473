-- Document 01, "Deciding": the decision, its trace, and the calls that decide.
use Rattle.std.specs.Prelude.{ltb, ℕ, List, [], ◌∷◌, ◌++◌, ℤ, pos, length}
use Rattle.std.proofs.Math.Option.{Option, none, some}
use Rattle.rules.specs.Limits.{max_bps, no_place}
use Rattle.rules.specs.Choice.{below, at_least, equal}
use Rattle.rules.specs.Records.{Listed}
use Rattle.rules.specs.Refused.{Fault, Faults, fault, input_fault, first_fault, Answer, refused, answered, unless, refuse_if}
use Rattle.rules.specs.Numbers.{Decision, DecisionAndTrace, Verdict, where_eligible}
use Rattle.rules.specs.Listing.{Reading, every_record, first_listed}
use Rattle.rules.specs.Price.{Cost, cost_under}
use Rattle.rules.specs.Verdict.{Judged, judged_by, judged, verdict_of}
use Rattle.rules.specs.Rank.{Candidate, ranking}
use Rattle.rules.specs.Count.{no_counts, counts_of, dominant_of}
use Rattle.rules.specs.declared.records.KernelInput.{KernelInput}
use Rattle.rules.specs.declared.records.PolicySnapshot.{PolicySnapshot}
use Rattle.rules.specs.declared.decision.RejectionHistogram.{RejectionHistogram}
use Rattle.rules.specs.declared.decision.DecisionTrace.{DecisionTrace}

-- D1, D2. The request's limits: 100 where the risk is at or above the hard limit, else 101 where the confidence is below the minimum,
-- else 0
unfoldable pub stopped_by : PolicySnapshot → KernelInput → ℕ
stopped_by p q = at_least q.risk_bps p.hard_risk_limit_bps 100 (below q.confidence_bps p.minimum_confidence_bps 101 0)

-- D25. In place of a chosen model: id 0, place 65,535, cost and utility 0
abbrev pub no_candidate : Candidate
no_candidate = record { utility = pos 0; cost = 0; quality = 0; id = 0; place = no_place }

-- D26. The counterfactual is the second of the ranking: its id and utility, 0 and 0 if there is none
abbrev pub counterfactual_id : List Candidate → ℕ
counterfactual_id [] = 0
counterfactual_id (c ∷ cs) = c.id

abbrev pub counterfactual_worth : List Candidate → ℤ
counterfactual_worth [] = pos 0
counterfactual_worth (c ∷ cs) = c.utility

-- X2. A decision: of which request, under which epochs, by which action and reason, with what was chosen and the rest of the ranking, and of how
-- many models evaluated and eligible
abbrev pub decision_with : ℕ → ℕ → ℕ → ℕ → ℕ → Candidate → List Candidate → ℕ → ℕ → Decision
decision_with sequence policy_epoch catalog_epoch action reason c rest evaluated eligible = record {
  sequence = sequence;
  action = action;
  reason = reason;
  model = c.id;
  place = c.place;
  cost = c.cost;
  utility = c.utility;
  counterfactual = counterfactual_id rest;
  counterfactual_utility = counterfactual_worth rest;
  evaluated = evaluated;
  eligible = eligible;
  policy_epoch = policy_epoch;
  catalog_epoch = catalog_epoch;
}

-- D25. A rejection: action 3, nothing chosen
unfoldable pub rejection : PolicySnapshot → KernelInput → ℕ → ℕ → Decision
rejection p q reason evaluated = decision_with q.request_sequence p.policy_epoch p.catalog_epoch 3 reason no_candidate [] evaluated 0

-- D20. The number of both action and reason: 1 where the chosen id is the requested one, else 2
unfoldable pub executed_as : ℕ → ℕ → ℕ
executed_as id requested = equal id requested 1 2

-- D26. The first of the ranking is chosen; the rest follows it
unfoldable pub chosen : PolicySnapshot → KernelInput → ℕ → Candidate → List Candidate → Decision
chosen p q evaluated c rest =
    let executed = executed_as c.id q.requested_model_id in
    decision_with q.request_sequence p.policy_epoch p.catalog_epoch executed executed c rest evaluated (length (c ∷ rest))

-- D24, D26. By the ranking; where it is empty, the reason of the largest count
abbrev pub by_ranking : PolicySnapshot → KernelInput → List Judged → List Candidate → Decision
by_ranking p q js [] = rejection p q (dominant_of (counts_of js)) (length js)
by_ranking p q js (c ∷ cs) = chosen p q (length js) c cs

unfoldable pub by_verdicts : PolicySnapshot → KernelInput → List Judged → Decision
by_verdicts p q js = by_ranking p q js (ranking js)

-- D1, D2. The decision over a list of records, by any rule of cost; a stopped request evaluates none
unfoldable pub decision_by : Cost → PolicySnapshot → KernelInput → List Listed → Decision
decision_by costs p q ls = below 0 (stopped_by p q) (rejection p q (stopped_by p q) 0) (by_verdicts p q (judged_by costs p q ls))

-- O1. By the policy's
abbrev pub decision_of : PolicySnapshot → KernelInput → List Listed → Decision
decision_of p q ls = decision_by (cost_under p) p q ls

-- D1, D2, D23. The counts: zero where the request is stopped
unfoldable pub counts_in : PolicySnapshot → KernelInput → List Listed → RejectionHistogram
counts_in p q ls = below 0 (stopped_by p q) no_counts (counts_of (judged p q ls))

-- D23. A decision with its counts
unfoldable pub trace_of : Decision → RejectionHistogram → DecisionTrace
trace_of d counts = record { rejections = counts; evaluated_models = d.evaluated; eligible_models = d.eligible }

abbrev pub traced_of : PolicySnapshot → KernelInput → List Listed → DecisionAndTrace
traced_of p q ls = record { decision = decision_of p q ls; trace = trace_of (decision_of p q ls) (counts_in p q ls) }

-- N3. The first field of a request, among risk, confidence and minimum quality, that is above 10,000
abbrev pub too_high : ℕ → ℕ → ℕ → Faults
too_high place field value = refuse_if (ltb max_bps value) (input_fault field value place)

unfoldable pub request_faults : KernelInput → ℕ → Faults
request_faults q place = too_high place 1 q.risk_bps ++ too_high place 2 q.confidence_bps ++ too_high place 3 q.minimum_quality_bps

-- N3. The request check alone
unfoldable pub request_check : KernelInput → Option Fault
request_check q = first_fault (request_faults q 0)

-- N23. `prescribe`, `prescribe_checked`, `prescribe_with_trace` and `prescribe_with_trace_checked` over a bank, however it is read
abbrev pub prescribe_over : PolicySnapshot → KernelInput → Reading → Answer Decision
prescribe_over p q b = unless b.faults refused (answered (decision_of p q b.list))

abbrev pub prescribe_checked_over : PolicySnapshot → KernelInput → Reading → Answer Decision
prescribe_checked_over p q b = unless (b.faults ++ request_faults q 0) refused (answered (decision_of p q b.list))

abbrev pub prescribe_traced_over : PolicySnapshot → KernelInput → Reading → Answer DecisionAndTrace
prescribe_traced_over p q b = unless b.faults refused (answered (traced_of p q b.list))

abbrev pub prescribe_traced_checked_over : PolicySnapshot → KernelInput → Reading → Answer DecisionAndTrace
prescribe_traced_checked_over p q b = unless (b.faults ++ request_faults q 0) refused (answered (traced_of p q b.list))

-- and with every record of it
unfoldable pub prescribe_of : PolicySnapshot → KernelInput → List ℕ → Answer Decision
prescribe_of p q bank = prescribe_over p q (every_record bank)

unfoldable pub prescribe_checked_of : PolicySnapshot → KernelInput → List ℕ → Answer Decision
prescribe_checked_of p q bank = prescribe_checked_over p q (every_record bank)

unfoldable pub prescribe_traced_of : PolicySnapshot → KernelInput → List ℕ → Answer DecisionAndTrace
prescribe_traced_of p q bank = prescribe_traced_over p q (every_record bank)

unfoldable pub prescribe_traced_checked_of : PolicySnapshot → KernelInput → List ℕ → Answer DecisionAndTrace
prescribe_traced_checked_of p q bank = prescribe_traced_checked_over p q (every_record bank)

-- N7. The utility of one model: refused where the request is stopped, the id isn't listed, or its first listed record isn't eligible
abbrev pub if_eligible : Verdict → Answer ℤ
if_eligible v = where_eligible v (answered v.utility) (refused (fault 7))

abbrev pub if_listed : PolicySnapshot → KernelInput → Option Listed → Answer ℤ
if_listed p q none = refused (fault 7)
if_listed p q (some l) = if_eligible (verdict_of p q l.model)

unfoldable pub utility_in : PolicySnapshot → KernelInput → ℕ → List Listed → Answer ℤ
utility_in p q id ls = below 0 (stopped_by p q) (refused (fault 7)) (if_listed p q (first_listed id ls))

abbrev pub utility_for_model_over : PolicySnapshot → KernelInput → ℕ → Reading → Answer ℤ
utility_for_model_over p q id b = unless b.faults refused (utility_in p q id b.list)

unfoldable pub utility_for_model_of : PolicySnapshot → KernelInput → ℕ → List ℕ → Answer ℤ
utility_for_model_of p q id bank = utility_for_model_over p q id (every_record bank)
