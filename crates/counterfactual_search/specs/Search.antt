-- What a search goes over.
use Rattle.std.specs.Prelude.{ℕ, ◌^◌, ◌≤◌, ◌<◌, Bool}
use Rattle.rules.specs.Halving.{Lowest, Highest}
use Rattle.rules.specs.Halving as rule
use Rattle.counterfactual_search.specs.declared.side.Side.{Side}
use Rattle.counterfactual_search.specs.declared.side.Side.TheVariants as side
use Rattle.counterfactual_lever.specs.Lever.{widest}
use Rattle.counterfactual_pass.specs.Asked.{wins_by}
use Rattle.counterfactual_pass.specs.declared.held.Held.{Held}

-- P3, P4. Which value is looked for
abbrev pub told_side : Side → rule.Side
told_side side.Lowest = Lowest
told_side side.Highest = Highest

-- W2. Whether what is held wins with a lever at a value
abbrev pub wins_on : Held → ℕ → ℕ → Bool
wins_on h lever v = wins_by h.pricing h.asked.input h.asked.model h.asked.place h.asked.id h.asked.rival lever v

-- A range that a search goes over: the lever's field holds it, and 32 bits do
pub record Within (lever low high : ℕ) : Type 0 where
  pub fits : high ≤ widest lever
  pub low_narrow : low < 2 ^ 32
  pub high_narrow : high < 2 ^ 32
