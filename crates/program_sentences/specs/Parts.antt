-- Parts of the sentences.
use Rattle.std.specs.Prelude.{ℕ, ◌-◌, List, ◌++◌}
use Rattle.rules.specs.Limits.{ppm}
use Rattle.rules.specs.Text.{text}
use Rattle.rules.specs.Phrases.{percent, percent_up}

-- By how much the price must fall, rounded up
unfoldable pub fall_up : ℕ → List ℕ
fall_up boundary = text "Price alone: it must fall by " ++ percent_up (ppm - boundary) ++ text " or more; exactly, by "

-- then exactly, and to what
unfoldable pub fall_start : ℕ → List ℕ
fall_start boundary = fall_up boundary ++ percent (ppm - boundary) ++ text ", to " ++ percent boundary ++ text " of today's"
