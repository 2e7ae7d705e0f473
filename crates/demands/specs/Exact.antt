-- Words for searches, over any test of a setting: a range of settings, which of two is more favourable, a test that turns once, and
-- what makes a boundary exact.
use Rattle.std.specs.Prelude.{ℕ, ◌≤◌, ◌≡◌, Bool, true, false, ◌↔◌, Option, Some, None}
use Rattle.rules.specs.Halving.{Side, Lowest, Highest}
use Rattle.rules.specs.declared.boundary.Bound.{Bound}

-- The settings from low to high, every one of them, both ends included
pub record Range : Type 0 where
  pub low : ℕ
  pub high : ℕ

abbrev pub range : ℕ → ℕ → Range
range low high = record { low = low; high = high }

abbrev pub In : Range → ℕ → Type 0
In r v = (r.low ≤ v) × (v ≤ r.high)

-- v is b or more favourable: where the lowest setting is looked for, those above it are; where the highest is, those below it
abbrev pub AtOrBetter : Side → ℕ → ℕ → Type 0
AtOrBetter Lowest b v = b ≤ v
AtOrBetter Highest b v = v ≤ b

-- A test that turns once over a range: where it holds, it holds at every more favourable setting
abbrev pub TurnsOnce : Side → (ℕ → Bool) → Range → Type 0
TurnsOnce side test r = (u v : ℕ) → In r u → In r v → AtOrBetter side u v → test u ≡ true → test v ≡ true

-- b is the boundary: of the range's settings, the test holds at b and at the more favourable ones, and at no other
pub record BoundaryAt (side : Side) (test : ℕ → Bool) (r : Range) (b : ℕ) : Type 0 where
  pub in_range : In r b
  pub exactly : (v : ℕ) → In r v → (test v ≡ true) ↔ AtOrBetter side b v

-- Some setting of the range, none, every one, and not every one
abbrev pub Somewhere : (ℕ → Bool) → Range → Type 0
Somewhere test r = (v : ℕ) × In r v × (test v ≡ true)

abbrev pub Nowhere : (ℕ → Bool) → Range → Type 0
Nowhere test r = (v : ℕ) → In r v → test v ≡ false

abbrev pub Everywhere : (ℕ → Bool) → Range → Type 0
Everywhere test r = (v : ℕ) → In r v → test v ≡ true

abbrev pub NotEverywhere : (ℕ → Bool) → Range → Type 0
NotEverywhere test r = (v : ℕ) × In r v × (test v ≡ false)

-- A search is exact: what it finds is the boundary, and it finds nothing where the test holds nowhere
abbrev pub FoundExact : Side → (ℕ → Bool) → Range → Option ℕ → Type 0
FoundExact side test r (Some b) = BoundaryAt side test r b
FoundExact side test r None = Nowhere test r

abbrev pub SearchExact : Side → (ℕ → Bool) → Range → Bound → Type 0
SearchExact side test r found = FoundExact side test r found.boundary

-- A search after the far end is exact: what it finds is the boundary of a test that fails somewhere, and it finds nothing where the test
-- holds everywhere
abbrev pub FoundAfterFarEnd : Side → (ℕ → Bool) → Range → Option ℕ → Type 0
FoundAfterFarEnd side test r (Some b) = BoundaryAt side test r b × NotEverywhere test r
FoundAfterFarEnd side test r None = Everywhere test r

abbrev pub FarEndExact : Side → (ℕ → Bool) → Range → Bound → Type 0
FarEndExact side test r found = FoundAfterFarEnd side test r found.boundary
