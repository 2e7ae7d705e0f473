-- What the sentences of the desk are made of. A sentence stands on a line of its own.
use Rattle.std.specs.Prelude.{ℕ, ◌+◌, ◌/◌, ◌%◌, List, [], ◌∷◌, ◌++◌}
use Rattle.rules.specs.Text.{text, decimal}

-- A sentence ends its line
unfoldable pub sentence : List ℕ → List ℕ
sentence words = words ++ (10 ∷ [])

-- Some words, a number, and more words
unfoldable pub about : List ℕ → ℕ → List ℕ → List ℕ
about before n after = before ++ decimal n ++ after

-- The same about two numbers
unfoldable pub comparing : List ℕ → ℕ → List ℕ → ℕ → List ℕ → List ℕ
comparing before m middle n after = before ++ decimal m ++ middle ++ decimal n ++ after

-- The last digit of a number
unfoldable pub digit : ℕ → List ℕ
digit n = (48 + n % 10) ∷ []

-- Q5. Millionths as percent, with four digits after the point
unfoldable pub percent : ℕ → List ℕ
percent n = decimal (n / 10000) ++ text "." ++ digit (n / 1000) ++ digit (n / 100) ++ digit (n / 10) ++ digit n ++ text " percent"

-- Q5. Millionths as tenths of a percent, rounded up: a fall by so much is no less
unfoldable pub tenths_up : ℕ → ℕ
tenths_up n = (n + 999) / 1000

-- and these as percent, with one digit after the point
unfoldable pub percent_up : ℕ → List ℕ
percent_up n = decimal (tenths_up n / 10) ++ text "." ++ digit (tenths_up n) ++ text " percent"
