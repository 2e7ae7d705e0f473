-- A part of a lever's line.
use Rattle.std.specs.Prelude.{ℕ, List, [], ◌∷◌}
use Rattle.std.proofs.Math.Option.{Option}
use Rattle.rules.specs.Text.{spaced}
use Rattle.rules.specs.Printed.{cost_text}

-- X3. A space, and the cost or the dash
abbrev pub cost_word : Option ℕ → List ℕ
cost_word c = spaced (cost_text c ∷ [])
