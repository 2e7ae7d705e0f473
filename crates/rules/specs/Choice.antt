-- Choices by a test, under names that read as sentences.
use Rattle.std.specs.Prelude.{ℕ, Bool, true, false, cond, eqb, leb, ltb, ℤ}
use Rattle.std.specs.Int.Signed.{lt_z}

-- x where a is below b, else y
unfoldable pub below : {A : Type 0} → ℕ → ℕ → A → A → A
below a b x y = cond (ltb a b) x y

-- x where a is at or above b, else y
unfoldable pub at_least : {A : Type 0} → ℕ → ℕ → A → A → A
at_least a b x y = cond (leb b a) x y

-- x where a is b, else y
unfoldable pub equal : {A : Type 0} → ℕ → ℕ → A → A → A
equal a b x y = cond (eqb a b) x y

-- the first of two tests that holds decides; where neither does, the rest
abbrev pub firstly : Bool → Bool → Bool → Bool
firstly win lose rest = cond win true (cond lose false rest)

-- the lower of two numbers comes first; where they are level, the rest decides
unfoldable pub lower : ℕ → ℕ → Bool → Bool
lower a b rest = firstly (ltb a b) (ltb b a) rest

-- the higher of two integers comes first; where they are level, the rest decides
unfoldable pub higher : ℤ → ℤ → Bool → Bool
higher a b rest = firstly (lt_z b a) (lt_z a b) rest

-- the first where the test holds, else the second. Each waits for the test, so that only one is ever computed
abbrev pub pick : {A : Type 0} → Bool → (Unit {0} → A) → (Unit {0} → A) → A
pick true f g = f tt
pick false f g = g tt
