-- The Rust's way to its first two: the loop of `prescribe_inner` over the eligible candidates, in the order of the list.
use Rattle.std.specs.Prelude.{Bool, true, false, cond, ◌&&◌, ◌||◌, eqb, ltb, ℤ, pos, negsuc}
use mathlib.Core.List.{List, [], ◌∷◌, foldl}
use Rattle.std.proofs.Math.Option.{Option, none, some}
use Rattle.std.specs.Int.Signed.{lt_z}
use Rattle.rules.specs.Rank.{Candidate}

-- == of two i64
abbrev pub eq_z : ℤ → ℤ → Bool
eq_z (pos a) (pos b) = eqb a b
eq_z (pos a) (negsuc b) = false
eq_z (negsuc a) (pos b) = false
eq_z (negsuc a) (negsuc b) = eqb a b

-- `candidate_better`. The place has no say in it
unfoldable pub better_in_rust : Candidate → Candidate → Bool
better_in_rust left right =
    lt_z right.utility left.utility
    || (eq_z left.utility right.utility && ltb left.cost right.cost)
    || (eq_z left.utility right.utility
    && eqb left.cost right.cost
    && ltb right.quality left.quality)
    || (eq_z left.utility right.utility
    && eqb left.cost right.cost
    && eqb left.quality right.quality
    && ltb left.id right.id)

-- The loop's two variables
pub record Two : Type 0 where
  pub best : Option Candidate
  pub second : Option Candidate

abbrev pub two : Option Candidate → Option Candidate → Two
two best second = record { best = best; second = second }

-- Option::is_none_or
abbrev pub is_none_or : {A : Type 0} → Option A → (A → Bool) → Bool
is_none_or none test = true
is_none_or (some a) test = test a

-- One turn: the first candidate becomes the best; one that is better than the best takes its room, and the old best is the second; any
-- other becomes the second where there is none or it is better than it
abbrev pub turn_from : Option Candidate → Option Candidate → Candidate → Two
turn_from none second c = two (some c) second
turn_from (some best) second c =
    cond (better_in_rust c best) (two (some c) (some best))
    (cond (is_none_or second λ s. better_in_rust c s) (two (some best) (some c)) (two (some best) second))

unfoldable pub turn : Two → Candidate → Two
turn t c = turn_from t.best t.second c

-- The whole loop
unfoldable pub kept_in_rust : List Candidate → Two
kept_in_rust cs = foldl turn (two none none) cs

-- The first two of a list
abbrev pub first_two : List Candidate → Two
first_two [] = two none none
first_two (x ∷ []) = two (some x) none
first_two (x ∷ y ∷ zs) = two (some x) (some y)
