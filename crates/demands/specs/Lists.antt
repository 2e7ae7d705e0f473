-- Words for lists and tests, over any elements: what the theorems on ranking say.
use Rattle.std.specs.Prelude.{ℕ, ◌+◌, ◌<◌, ◌≡◌, Bool, cond, List, [], ◌∷◌}
use Rattle.rules.specs.Order.{Pairs}

-- Keys that rise along a list, and keys that are all different
abbrev pub Rising : {A : Type 0} → (A → ℕ) → List A → Type 0
Rising key xs = Pairs (λ a b. key a < key b) xs

abbrev pub Different : {A : Type 0} → (A → ℕ) → List A → Type 0
Different key xs = Pairs (λ a b. key a ≡ key b → ⊥) xs

-- How many of a list pass a test
abbrev pub many : {A : Type 0} → (A → Bool) → List A → ℕ
many test [] = 0
many test (x ∷ xs) = cond (test x) (many test xs + 1) (many test xs)
