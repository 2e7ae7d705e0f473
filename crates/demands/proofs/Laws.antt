-- Laws of the Rust's checked arithmetic, and the one law of a list's largest key.
-- Assumes nothing.
use Rattle.rules.proofs.Kit.{ℕ, ◌+◌, ◌*◌, ◌^◌, ◌≤◌, ◌<◌, ◌≡◌, refl, sym, ap, ◌∙◌, Bool, true, false, false≢true, cond, List, List-as-Memᴰ, List·Memᴰ·head}
use Rattle.rules.proofs.Kit.{List·Memᴰ·tail, Option, none, some, Option·some-injective, Option·none-ne-some, le-max_left, le-max_right, le_trans, le_of_eq}
use Rattle.rules.proofs.Kit.{le_of_lt, lt_of_le_of_lt, mul-le-mul_right, mul-lt-mul_of_pos_left, ltb, ltb-true, ltb-false}
use mathlib.Core.Option.{Option-elim as map_or_else}
use lib.Pow.{pow-add, pow_pos}
use Rattle.rules.proofs.Choices.{below-yes, below-no}
use Rattle.demands.specs.{Machine.checked, Machine.is_some, Paths.largest}

-- an element's key is at most the largest, over any key
pub at_most_largest : {A : Type 0} {x : A} {xs : List A} (key : A → ℕ) → List-as-Memᴰ x xs → key x ≤ largest key xs
unfolding largest
at_most_largest key (List·Memᴰ·head e) = le_trans (le_of_eq (ap key e)) (le-max_left _ _)
at_most_largest key (List·Memᴰ·tail r) = le_trans (at_most_largest key r) (le-max_right _ _)

-- a checked result is exact, and below 2 ^ 64
pub checked_some : (n k : ℕ) → checked n ≡ some k → (n < 2 ^ 64) × (k ≡ n)
unfolding checked
checked_some n k e = go (ltb n (2 ^ 64)) refl
  where
    go : (b : Bool) → ltb n (2 ^ 64) ≡ b → (n < 2 ^ 64) × (k ≡ n)
    go true p = let h = ltb-true n (2 ^ 64) p in (h, Option·some-injective k n (sym e ∙ below-yes n (2 ^ 64) (some n) none h))
    go false p = absurd (Option·none-ne-some k (sym (below-no n (2 ^ 64) (some n) none (ltb-false n (2 ^ 64) p)) ∙ e))

pub is_some_lem : {A : Type 0} (o : Option A) → is_some o ≡ true → (a : A) × (o ≡ some a)
unfolding is_some
is_some_lem none e = absurd (false≢true e)
is_some_lem (some a) e = (a, refl)

-- a result that is kept where a test passes
pub kept : (b : Bool) (n k : ℕ) → cond b (some n) none ≡ some k → (b ≡ true) × (n ≡ k)
kept true n k e = (refl, Option·some-injective n k e)
kept false n k e = absurd (Option·none-ne-some k e)

-- a choice whose two sides are the same where it takes the first: by a checked result, and by a test
pub either_way : {A : Type 0} (o : Option ℕ) (slow : A) (fast : ℕ → A) → ((n : ℕ) → o ≡ some n → fast n ≡ slow) → map_or_else o slow fast ≡ slow
unfolding map_or_else
either_way none slow fast same = refl
either_way (some n) slow fast same = same n refl

pub by_test : {A : Type 0} (b : Bool) (fast slow : A) → (b ≡ true → fast ≡ slow) → cond b fast slow ≡ slow
by_test true fast slow same = same refl
by_test false fast slow same = refl

-- a product of a number of j bits and one of k bits
pub product_lt : (j k : ℕ) {a b : ℕ} → a < 2 ^ j → b < 2 ^ k → a * b < 2 ^ (j + k)
product_lt j k {a} {b} p q = rw pow-add (lt_of_le_of_lt (mul-le-mul_right b (le_of_lt p)) (mul-lt-mul_of_pos_left q (pow_pos j)))
