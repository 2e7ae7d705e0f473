-- Document 01, "Deciding": what one record is told.
use Rattle.std.specs.Prelude.{ℕ, cond, List, map, pos}
use Rattle.std.specs.Int.Signed.{le_z}
use Rattle.rules.specs.Choice.{below}
use Rattle.rules.specs.Records.{Listed}
use Rattle.rules.specs.Numbers.{Verdict, two_numbers}
use Rattle.rules.specs.Gates.{gate_of, detail_of}
use Rattle.rules.specs.Price.{Cost, cost_under}
use Rattle.rules.specs.Utility.{quality_term_of, risk_term_of, latency_term_of, utility_of}
use Rattle.rules.specs.declared.records.KernelModel.{KernelModel}
use Rattle.rules.specs.declared.records.KernelInput.{KernelInput}
use Rattle.rules.specs.declared.records.PolicySnapshot.{PolicySnapshot}
use Rattle.rules.specs.declared.verdict.GateDetail.{GateDetail}

-- D3, D12. Verdict 1, with the gate and what it measured
abbrev pub rejected : ℕ → GateDetail → Verdict
rejected gate d = two_numbers 1 gate d.measured d.limit

-- D14. Verdict 2: the cost is above the budget
abbrev pub over_budget : ℕ → ℕ → Verdict
over_budget cost budget = two_numbers 2 0 cost budget

-- A verdict that carries the terms, at a cost
abbrev pub with_terms : PolicySnapshot → KernelInput → KernelModel → ℕ → ℕ → Verdict
with_terms p q m cost n = record {
  kind = n;
  gate = 0;
  first = quality_term_of m q;
  second = risk_term_of p q;
  cost = cost;
  latency = latency_term_of p m;
  utility = utility_of p m q cost;
}

-- D19. Verdict 3 where the utility is 0 or less, else 4
unfoldable pub by_utility : PolicySnapshot → KernelInput → KernelModel → ℕ → Verdict
by_utility p q m cost = with_terms p q m cost (cond (le_z (utility_of p m q cost) (pos 0)) 3 4)

-- D3, D14, D19. At a cost: a gate that fails, then the budget, then the utility
unfoldable pub verdict_costing : PolicySnapshot → KernelInput → KernelModel → ℕ → Verdict
verdict_costing p q m cost =
    below 0 (gate_of m q) (rejected (gate_of m q) (detail_of m q (gate_of m q)))
    (below q.budget_limit_microunits cost (over_budget cost q.budget_limit_microunits) (by_utility p q m cost))

-- O1. At the policy's own cost
abbrev pub verdict_of : PolicySnapshot → KernelInput → KernelModel → Verdict
verdict_of p q m = verdict_costing p q m (cost_under p m q)

-- A listed record with what it is told, by any rule of cost, and by the policy's
pub record Judged : Type 0 where
  pub listed : Listed
  pub verdict : Verdict

abbrev pub judge_by : Cost → PolicySnapshot → KernelInput → Listed → Judged
judge_by costs p q l = record { listed = l; verdict = verdict_costing p q l.model (costs l.model q) }

abbrev pub judge : PolicySnapshot → KernelInput → Listed → Judged
judge p q l = judge_by (cost_under p) p q l

abbrev pub judged_by : Cost → PolicySnapshot → KernelInput → List Listed → List Judged
judged_by costs p q ls = map (judge_by costs p q) ls

abbrev pub judged : PolicySnapshot → KernelInput → List Listed → List Judged
judged p q ls = judged_by (cost_under p) p q ls
