-- The ways of a choice: what decides it, as plain orders and equations. Assumes nothing.
use Rattle.rules.proofs.Kit.{ℕ, ◌<◌, ◌≤◌, ◌≡◌, refl, Bool, true, false, arith, lt-ltb, le-ltb, le-leb, lt-leb, eq-eqb, ne_eqb, ltb}
use Rattle.rules.specs.Choice.{below, at_least, equal, firstly, lower}

module _ {A : Type 0} (a b : ℕ) (x y : A) where
  pub below-yes : a < b → below a b x y ≡ x
  unfolding below
  below-yes h = rw (lt-ltb a b h)

  pub below-no : b ≤ a → below a b x y ≡ y
  unfolding below
  below-no h = rw (le-ltb a b h)

  pub at_least-yes : b ≤ a → at_least a b x y ≡ x
  unfolding at_least
  at_least-yes h = rw (le-leb b a h)

  pub at_least-no : a < b → at_least a b x y ≡ y
  unfolding at_least
  at_least-no h = rw (lt-leb b a h)

  pub equal-yes : a ≡ b → equal a b x y ≡ x
  unfolding equal
  equal-yes h = rw (eq-eqb a b h)

  pub equal-no : (a ≡ b → ⊥) → equal a b x y ≡ y
  unfolding equal
  equal-no h = rw (ne_eqb a b h)

module _ (a b : ℕ) (rest : Bool) where
  pub lower-yes : a < b → lower a b rest ≡ true
  unfolding lower
  lower-yes h = rw (lt-ltb a b h)

  pub lower-no : b < a → lower a b rest ≡ false
  unfolding lower
  lower-no h = rw (le-ltb a b (omega arith), lt-ltb b a h)

  pub lower-level : a ≡ b → lower a b rest ≡ rest
  unfolding lower
  lower-level e = rw (le-ltb a b (omega arith), le-ltb b a (omega arith))

-- the last key is its own test
pub lower_last : (a b : ℕ) → lower a b false ≡ ltb a b
unfolding lower
lower_last a b = go (ltb a b) (ltb b a)
  where
    go : (t u : Bool) → firstly t u false ≡ t
    go true u = refl
    go false true = refl
    go false false = refl
