-- The records of a part of a bank, at the places that they have in the whole.
use Rattle.std.specs.Prelude.{ℕ, ◌+◌, List, map}
use Rattle.rules.specs.Records.{Listed, listed, listed_of}

-- A listed record so many places further on
abbrev pub onward : ℕ → Listed → Listed
onward first l = listed (first + l.place) l.model

-- B4. The records of a part whose first record has a given place
unfoldable pub placed_from : ℕ → List ℕ → List Listed
placed_from first part = map (onward first) (listed_of part)
