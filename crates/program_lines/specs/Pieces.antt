-- A part of the decision's line.
use Rattle.std.specs.Prelude.{ℕ, List, [], ◌∷◌, ◌++◌}
use Rattle.rules.specs.Numbers.{Decision}
use Rattle.rules.specs.Text.{text, decimal, signed_decimal, spaced}

-- X2. The decision's line up to its utility
unfoldable pub decision_start : Decision → List ℕ
decision_start d =
    text "decision"
    ++ spaced
    (decimal d.sequence
    ∷ decimal d.action
    ∷ decimal d.reason
    ∷ decimal d.model
    ∷ decimal d.place
    ∷ decimal d.cost
    ∷ signed_decimal d.utility
    ∷ [])
