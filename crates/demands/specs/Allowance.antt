-- Document 01's latency term, in which every millisecond is charged, written out; what a record is told by it, and what is decided and selected then.
-- And a policy with another allowance, and two policies beside each other.
use Rattle.std.specs.Prelude.{ℕ, ◌*◌, ◌≡◌, Bool, true, cond, List, map, ℤ, pos, ◌-ℤ◌}
use Rattle.std.specs.Int.Signed.{le_z}
use Rattle.rules.specs.Choice.{below}
use Rattle.rules.specs.Records.{Listed}
use Rattle.rules.specs.Numbers.{Decision, Verdict}
use Rattle.rules.specs.Gates.{gate_of, detail_of}
use Rattle.rules.specs.Price.{Cost}
use Rattle.rules.specs.Utility.{quality_term_of, risk_term_of, held, utility_of}
use Rattle.rules.specs.Verdict.{rejected, over_budget, Judged}
use Rattle.rules.specs.Decide.{stopped_by, rejection, by_verdicts}
use Rattle.rules.specs.Levers.{Question, lever_at, selects, varied}
use Rattle.rules.specs.declared.records.KernelModel.{KernelModel}
use Rattle.rules.specs.declared.records.KernelInput.{KernelInput}
use Rattle.rules.specs.declared.records.PolicySnapshot.{PolicySnapshot}

-- A policy with another allowance
abbrev pub with_allowance : ℕ → PolicySnapshot → PolicySnapshot
with_allowance allowance p = record {
  policy_epoch = p.policy_epoch;
  catalog_epoch = p.catalog_epoch;
  hard_risk_limit_bps = p.hard_risk_limit_bps;
  minimum_confidence_bps = p.minimum_confidence_bps;
  risk_penalty_multiplier_bps = p.risk_penalty_multiplier_bps;
  latency_penalty_microunits_per_ms = p.latency_penalty_microunits_per_ms;
  rounding = p.rounding;
  latency_allowance_ms = allowance;
}

-- A policy under which no model is worth less than under another, for any request and at any cost
abbrev pub NowhereWorthLess : PolicySnapshot → PolicySnapshot → Type 0
NowhereWorthLess p other = (m : KernelModel) (q : KernelInput) (cost : ℕ) → le_z (utility_of other m q cost) (utility_of p m q cost) ≡ true

-- ---- charged in full

-- Document 01's latency term: milliseconds times the penalty
unfoldable pub term_in_full : PolicySnapshot → KernelModel → ℕ
term_in_full p m = m.p95_latency_ms * p.latency_penalty_microunits_per_ms

-- The utility with that term, held within i64
unfoldable pub utility_in_full : PolicySnapshot → KernelModel → KernelInput → ℕ → ℤ
utility_in_full p m q cost = held (pos (quality_term_of m q) -ℤ pos (risk_term_of p q) -ℤ pos cost -ℤ pos (term_in_full p m))

-- What a record is told that no gate and no budget rejects: verdict 3 where that utility is 0 or less, else 4
abbrev pub told_in_full : PolicySnapshot → KernelInput → KernelModel → ℕ → Verdict
told_in_full p q m cost = record {
  kind = cond (le_z (utility_in_full p m q cost) (pos 0)) 3 4;
  gate = 0;
  first = quality_term_of m q;
  second = risk_term_of p q;
  cost = cost;
  latency = term_in_full p m;
  utility = utility_in_full p m q cost;
}

-- What any record is told, at a cost
unfoldable pub verdict_in_full : PolicySnapshot → KernelInput → KernelModel → ℕ → Verdict
verdict_in_full p q m cost =
    below 0 (gate_of m q) (rejected (gate_of m q) (detail_of m q (gate_of m q)))
    (below q.budget_limit_microunits cost (over_budget cost q.budget_limit_microunits) (told_in_full p q m cost))

-- What the records of a list are told, by any rule of cost
abbrev pub judged_in_full : Cost → PolicySnapshot → KernelInput → List Listed → List Judged
judged_in_full costs p q ls = map (λ l. record { listed = l; verdict = verdict_in_full p q l.model (costs l.model q) }) ls

-- The decision over it
unfoldable pub decision_in_full : Cost → PolicySnapshot → KernelInput → List Listed → Decision
decision_in_full costs p q ls = below 0 (stopped_by p q) (rejection p q (stopped_by p q) 0) (by_verdicts p q (judged_in_full costs p q ls))

-- The decision with a lever at a value, and whether it selects the id that is asked about: what boundaries are searched by
abbrev pub decision_in_full_at : Question → ℕ → ℕ → Decision
decision_in_full_at a lever v =
    decision_in_full a.costs a.policy a.request (varied a.id (lever_at lever v a.model) a.list)

abbrev pub wins_in_full : Question → ℕ → ℕ → Bool
wins_in_full a lever v = selects a.id (decision_in_full_at a lever v)
