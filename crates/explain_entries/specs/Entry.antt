-- An entry of an explanation, by the numbers that the code carries.
use Rattle.std.specs.Prelude.{ℕ}
use Rattle.rules.specs.Wide.{val}
use Rattle.rules.specs.Records.{listed}
use Rattle.rules.specs.Numbers.{Verdict}
use Rattle.rules.specs.Verdict.{Judged}
use Rattle.rules.specs.declared.records.KernelModel.{KernelModel}
use Rattle.explain_entries.specs.declared.entry.VerdictNumbers.{VerdictNumbers}

-- B6. The numbers that the code carries, each two limbs as one number
abbrev pub verdict_numbers : VerdictNumbers → Verdict
verdict_numbers n =
    record {
      kind = n.kind;
      gate = n.gate;
      first = val n.first;
      second = val n.second;
      cost = n.cost;
      latency = val n.latency;
      utility = n.utility;
    }

-- A model at a place, with what it is told
abbrev pub judged_entry : ℕ → KernelModel → Verdict → Judged
judged_entry place m v = record { listed = listed place m; verdict = v }
