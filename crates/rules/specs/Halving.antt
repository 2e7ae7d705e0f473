-- Document 01, "Boundaries": the published halving over any test, with its passes.
use Rattle.std.specs.Prelude.{ℕ, zero, suc, ◌+◌, ◌-◌, ◌/◌, Bool, true, false, ltb, Some, None}
use Rattle.rules.specs.Choice.{pick}
use Rattle.rules.specs.declared.boundary.Bound.{Bound}

-- P3, P4. Which value is looked for
pub data Side : Type 0 where
  Lowest : Side
  Highest : Side

-- P3, P4. The end that is tried first: the favourable one
abbrev pub first_tried : Side → ℕ → ℕ → ℕ
first_tried Lowest low high = high
first_tried Highest low high = low

-- P3, P4. The middle: rounded down for the lowest, up for the highest
abbrev pub middle : Side → ℕ → ℕ → ℕ
middle Lowest low high = low + (high - low) / 2
middle Highest low high = low + (high - low + 1) / 2

-- The half that is kept, by whether the middle wins: its low end and its high end
abbrev pub kept_low : Side → Bool → ℕ → ℕ → ℕ
kept_low Lowest true low mid = low
kept_low Lowest false low mid = mid + 1
kept_low Highest true low mid = mid
kept_low Highest false low mid = low

abbrev pub kept_high : Side → Bool → ℕ → ℕ → ℕ
kept_high Lowest true mid high = mid
kept_high Lowest false mid high = high
kept_high Highest true mid high = high
kept_high Highest false mid high = mid - 1

-- Where a halving ends, and how many passes it made
pub record Halved : Type 0 where
  pub at : ℕ
  pub passes : ℕ

-- P1. One pass more
abbrev pub one_pass : Halved → Halved
one_pass h = record { at = h.at; passes = h.passes + 1 }

-- P3, P4. Halve until one value is left, at most so many times
unfoldable pub halve_in : Side → (ℕ → Bool) → ℕ → ℕ → ℕ → Halved
halve_in side wins zero low high = record { at = low; passes = 0 }
halve_in side wins (suc times) low high =
    pick (ltb low high)
    (λ _.
    let mid = middle side low high in
    let won = wins mid in
    one_pass (halve_in side wins times (kept_low side won low mid) (kept_high side won mid high)))
    (λ _. record { at = low; passes = 0 })

-- Each halving narrows the range, so as many as it is wide are enough
abbrev pub halve : Side → (ℕ → Bool) → ℕ → ℕ → Halved
halve side wins low high = halve_in side wins (high - low) low high

-- P1. What a search answers: a boundary with the passes, or the passes alone
abbrev pub At : ℕ → ℕ → Bound
At b n = record { boundary = Some b; passes = n }

abbrev pub Nothing : ℕ → Bound
Nothing n = record { boundary = None; passes = n }

-- P1. What it found: the end that was tried first is a pass too
abbrev pub found_at : Halved → Bound
found_at h = At h.at (h.passes + 1)

-- P1. The passes of a search
abbrev pub passes_of : Bound → ℕ
passes_of found = found.passes

-- P2, P3, P4. A search: nothing and no pass for an empty range; nothing and one pass where the end tried first loses
unfoldable pub search_of : Side → (ℕ → Bool) → ℕ → ℕ → Bound
search_of side wins low high =
    pick (ltb high low) (λ _. Nothing 0) (λ _. pick (wins (first_tried side low high)) (λ _. found_at (halve side wins low high)) (λ _. Nothing 1))

-- M5. The far end of a margin: the least favourable one
abbrev pub far_end : Side → ℕ → ℕ → ℕ
far_end Lowest low high = low
far_end Highest low high = high

abbrev pub later_by : ℕ → Bound → Bound
later_by n found = record { boundary = found.boundary; passes = found.passes + n }

-- M5. A search after the far end: where that wins there is no boundary
unfoldable pub search_after_far_end : Side → (ℕ → Bool) → ℕ → ℕ → Bound
search_after_far_end side wins low high = pick (wins (far_end side low high)) (λ _. Nothing 1) (λ _. later_by 1 (search_of side wins low high))
