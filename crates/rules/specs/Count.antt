-- Document 01, "Deciding": the nine counts, and the reason of the largest.
use Rattle.std.specs.Prelude.{ℕ, ◌+◌, get_or}
use mathlib.Core.List.{List, [], ◌∷◌, foldl, map}
use Rattle.rules.specs.Choice.{below, equal}
use Rattle.rules.specs.Numbers.{Verdict}
use Rattle.rules.specs.Verdict.{Judged}
use Rattle.rules.specs.declared.decision.RejectionHistogram.{RejectionHistogram}

-- D23. The reason that a gate's failures count for: gates 5 and 6 share the provider's
unfoldable pub gate_reason : ℕ → ℕ
gate_reason gate = get_or (0 ∷ 102 ∷ 103 ∷ 104 ∷ 105 ∷ 106 ∷ 106 ∷ 107 ∷ 110 ∷ []) gate 0

-- D23. The reason that a verdict counts for: 1 by its gate, 2 budget, 3 utility; 0 where it is eligible
unfoldable pub counted_for : Verdict → ℕ
counted_for v = get_or (0 ∷ gate_reason v.gate ∷ 108 ∷ 109 ∷ []) v.kind 0

-- A count of a reason, one higher where the given reason is that one
abbrev pub one_more : ℕ → ℕ → ℕ → ℕ
one_more counted reason n = equal counted reason (n + 1) n

-- D23. One more record for a reason: its count is one higher; 0 is no reason, and raises none
unfoldable pub raised_by : RejectionHistogram → ℕ → RejectionHistogram
raised_by c reason = record {
  disabled = one_more 102 reason c.disabled;
  quality = one_more 103 reason c.quality;
  risk_ceiling = one_more 110 reason c.risk_ceiling;
  latency = one_more 104 reason c.latency;
  capability = one_more 105 reason c.capability;
  provider = one_more 106 reason c.provider;
  region = one_more 107 reason c.region;
  budget = one_more 108 reason c.budget;
  utility = one_more 109 reason c.utility;
}

-- D1, D2. No record counted
abbrev pub no_counts : RejectionHistogram
no_counts = record { disabled = 0; quality = 0; risk_ceiling = 0; latency = 0; capability = 0; provider = 0; region = 0; budget = 0; utility = 0 }

-- D23. How many records count for each reason
unfoldable pub counts_from : List ℕ → RejectionHistogram
counts_from [] = no_counts
counts_from (r ∷ rs) = raised_by (counts_from rs) r

-- D23. The nine counts together
abbrev pub total : RejectionHistogram → ℕ
total c = c.disabled + c.quality + c.risk_ceiling + c.latency + c.capability + c.provider + c.region + c.budget + c.utility

-- D23. What each record counts for, and the counts of a list
abbrev pub reasons_of : List Judged → List ℕ
reasons_of js = map (λ j. counted_for j.verdict) js

unfoldable pub counts_of : List Judged → RejectionHistogram
counts_of js = counts_from (reasons_of js)

-- X2. The nine counts in the order in which they are held and printed
abbrev pub count_numbers : RejectionHistogram → List ℕ
count_numbers c = c.disabled ∷ c.quality ∷ c.risk_ceiling ∷ c.latency ∷ c.capability ∷ c.provider ∷ c.region ∷ c.budget ∷ c.utility ∷ []

-- D24. A reason with its count
pub record Weight : Type 0 where
  pub count : ℕ
  pub reason : ℕ

abbrev pub weight : ℕ → ℕ → Weight
weight count reason = record { count = count; reason = reason }

-- D24. Document 01's order of the reasons
abbrev pub weights : RejectionHistogram → List Weight
weights c =
    weight c.capability 105
    ∷ weight c.region 107
    ∷ weight c.provider 106
    ∷ weight c.quality 103
    ∷ weight c.risk_ceiling 110
    ∷ weight c.latency 104
    ∷ weight c.budget 108
    ∷ weight c.utility 109
    ∷ weight c.disabled 102
    ∷ []

-- D24. Of two, the later one, unless its count is the smaller
unfoldable pub heavier : Weight → Weight → Weight
heavier a b = below b.count a.count a b

-- D24. The last of the largest; 102 where all are zero
unfoldable pub dominant_of : RejectionHistogram → ℕ
dominant_of c = (foldl heavier (weight 0 102) (weights c)).reason
