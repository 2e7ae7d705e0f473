-- Laws of lists: what holds for each or for all pairs, and what a permutation keeps. Assumes nothing.
use Rattle.rules.proofs.Kit.{ℕ, ◌≡◌, refl, sym, subst, ◌∙◌, Bool, false, List, [], ◌∷◌, List-as-Memᴰ, List·Memᴰ·head, List·Memᴰ·tail, List-as-Permᴰ, List·Permᴰ·nil}
use Rattle.rules.proofs.Kit.{List·Permᴰ·cons, List·Permᴰ·swap, List·Permᴰ·trans, arith, zero, suc, ◌++◌, replicate, ⊎_elim}
use Rattle.rules.specs.{Order.Each, Order.Pairs, Slots.live_by}
use Rattle.rules.proofs.{Counts.swap, Sorted.each-so, Sorted.each-middle, Sorted.each-moved, Orders.same_or_not, Slots.live-none, Slots.live-left}
use Rattle.rules.proofs.{Slots.live-kept, Slots.live-each}
use Rattle.demands.specs.Lists.{Rising, Different, many}

module _ {A : Type 0} where
  pub each_both : (P Q S : A → Type 0) → ((a : A) → P a → Q a → S a) → (xs : List A) → Each P xs → Each Q xs → Each S xs
  each_both P Q S so [] h k = tt
  each_both P Q S so (x ∷ xs) h k = (so x h.0 k.0, each_both P Q S so xs h.1 k.1)

  pub pairs-so : (R S : A → A → Type 0) → ((a b : A) → R a b → S a b) → (xs : List A) → Pairs R xs → Pairs S xs
  pairs-so R S so [] h = tt
  pairs-so R S so (x ∷ xs) h = (each-so (R x) (S x) (so x) xs h.0, pairs-so R S so xs h.1)

  pub pairs-both : (R S T : A → A → Type 0) → ((a b : A) → R a b → S a b → T a b) → (xs : List A) → Pairs R xs → Pairs S xs → Pairs T xs
  pairs-both R S T so [] h k = tt
  pairs-both R S T so (x ∷ xs) h k = (each_both (R x) (S x) (T x) (so x) xs h.0 k.0, pairs-both R S T so xs h.1 k.1)

  pub each_all : (P : A → Type 0) → ((a : A) → P a) → (xs : List A) → Each P xs
  each_all P so [] = tt
  each_all P so (x ∷ xs) = (so x, each_all P so xs)

  pub each_append : (P : A → Type 0) (xs ys : List A) → Each P xs → Each P ys → Each P (xs ++ ys)
  each_append P [] ys h k = k
  each_append P (x ∷ xs) ys h k = (h.0, each_append P xs ys h.1 k)

  pub each-front : (P : A → Type 0) (xs ys : List A) → Each P (xs ++ ys) → Each P xs
  each-front P [] ys h = tt
  each-front P (x ∷ xs) ys h = (h.0, each-front P xs ys h.1)

  pub each_back : (P : A → Type 0) (xs ys : List A) → Each P (xs ++ ys) → Each P ys
  each_back P [] ys h = h
  each_back P (x ∷ xs) ys h = each_back P xs ys h.1

  pub each-replicate : (P : A → Type 0) (n : ℕ) (a : A) → P a → Each P (replicate n a)
  each-replicate P zero a p = tt
  each-replicate P (suc n) a p = (p, each-replicate P n a p)

  -- ---- one swapped for another

  pub each-swapped : (P : A → Type 0) (xs : List A) (x : A) (ys : List A) (y : A) → P y → Each P (xs ++ x ∷ ys) → Each P (xs ++ y ∷ ys)
  each-swapped P [] x ys y p h = (p, h.1)
  each-swapped P (z ∷ xs) x ys y p h = (h.0, each-swapped P xs x ys y p h.1)

  pub pairs-swapped : (R : A → A → Type 0) (xs : List A) (x : A) (ys : List A) (y : A) → Each (λ a. R a y) xs → Each (R y) ys → Pairs R (xs ++ x ∷ ys)
      → Pairs R (xs ++ y ∷ ys)
  pairs-swapped R [] x ys y h k r = (k, r.1)
  pairs-swapped R (z ∷ xs) x ys y h k r = (each-swapped (R z) xs x ys y h.0 r.0, pairs-swapped R xs x ys y h.1 k r.1)

  -- how those before one, and those after it, stand to it
  pub pairs-before : (R : A → A → Type 0) (xs : List A) (x : A) (ys : List A) → Pairs R (xs ++ x ∷ ys) → Each (λ a. R a x) xs
  pairs-before R [] x ys h = tt
  pairs-before R (z ∷ xs) x ys h = (each-middle (R z) xs x ys h.0, pairs-before R xs x ys h.1)

  pub pairs-after : (R : A → A → Type 0) (xs : List A) (x : A) (ys : List A) → Pairs R (xs ++ x ∷ ys) → Each (R x) ys
  pairs-after R [] x ys h = h.0
  pairs-after R (z ∷ xs) x ys h = pairs-after R xs x ys h.1

  -- what holds for all pairs holds for those of the live ones
  pub pairs-live : (id : A → ℕ) (R : A → A → Type 0) (xs : List A) → Pairs R xs → Pairs R (live_by id xs)
  pairs-live id R [] h = rw (live-none id) tt
  pairs-live id R (x ∷ xs) h =
      ⊎_elim
      (λ e. rw (live-left id x xs e) (pairs-live id R xs h.1))
      (λ n. rw (live-kept id x xs n) (live-each id (R x) xs h.0, pairs-live id R xs h.1))
      (same_or_not (id x) 0)

  -- rising keys are different
  pub rising-different : (key : A → ℕ) (xs : List A) → Rising key xs → Different key xs
  rising-different key = pairs-so _ _ (λ a b h e. omega arith)

  -- what holds for each holds for a member
  pub each_member : (P : A → Type 0) {x : A} {xs : List A} → Each P xs → List-as-Memᴰ x xs → P x
  each_member P h (List·Memᴰ·head e) = subst P (sym e) h.0
  each_member P h (List·Memᴰ·tail m) = each_member P h.1 m

  -- ---- what a permutation keeps

  pub pairs-moved : (R : A → A → Type 0) → ((a b : A) → R a b → R b a) → {xs ys : List A} → List-as-Permᴰ xs ys → Pairs R xs → Pairs R ys
  pairs-moved R back List·Permᴰ·nil h = tt
  pairs-moved R back (List·Permᴰ·cons {l₂ = l} e d) h =
      (subst (λ (x : A). Each (R x) l) e (each-moved (R _) d h.0), pairs-moved R back d h.1)
  pairs-moved R back (List·Permᴰ·swap {a = a} {b = b} {a' = c} {b' = d} {l = l} e f) h = (
    (subst (λ (x : A). R x d) f (subst (R b) e (back a b h.0.0)), subst (λ (x : A). Each (R x) l) f h.1.0),
    (subst (λ (x : A). Each (R x) l) e h.0.1, h.1.1),
  )
  pairs-moved R back (List·Permᴰ·trans d f) h = pairs-moved R back f (pairs-moved R back d h)

  pub many-moved : (test : A → Bool) {xs ys : List A} → List-as-Permᴰ xs ys → many test xs ≡ many test ys
  many-moved test List·Permᴰ·nil = refl
  many-moved test (List·Permᴰ·cons e d) = rw (e, many-moved test d)
  many-moved test (List·Permᴰ·swap {a = a} {b = b} {l = l} e f) = rw (← e, ← f) (swap (test a) (test b) (many test l))
  many-moved test (List·Permᴰ·trans d f) = many-moved test d ∙ many-moved test f

  -- a test that each fails counts none
  pub many-none : (test : A → Bool) (xs : List A) → Each (λ x. test x ≡ false) xs → many test xs ≡ 0
  many-none test [] h = refl
  many-none test (x ∷ xs) h = rw h.0 (many-none test xs h.1)
