-- A row that is filled from its start, over any elements: before the first turn, one turn, after the last. Assumes nothing.
use Rattle.rules.proofs.Kit.{ℕ, zero, suc, ◌+◌, ◌<◌, arith, le_of_lt, add-one, ◌≡◌, refl, ap, sym, ◌∙◌, List, [], ◌∷◌, ◌++◌, map, length, take, drop, get_or, set}
use Rattle.rules.proofs.Kit.{length-map, List·get_d-map, take-suc, drop-cons, append_snoc, set_at, take_all, length-take-le}
use Rattle.rules.specs.{Bytes.filled, Records.Listed, Numbers.Decision, Decide.decision_of}
use Rattle.rules.specs.{declared.records.KernelInput.KernelInput, declared.records.PolicySnapshot.PolicySnapshot}

-- A request's own decision
abbrev pub own : PolicySnapshot → List Listed → KernelInput → Decision
own p ls q = decision_of p q ls

-- After so many turns: what so many requests come to, and then what stood there
unfoldable pub after : {A B : Type 0} → (A → B) → List A → List B → ℕ → List B
after f rs ys i = take i (map f rs) ++ drop i ys

module _ {A B : Type 0} (f : A → B) (rs : List A) (ys : List B) where
  -- BEFORE THE FIRST TURN the row is as it was
  pub after_none : after f rs ys 0 ≡ ys
  unfolding after
  after_none = refl

  -- ONE TURN fills the next place
  pub after-step : (i : ℕ) (d : A) → i < length rs → i < length ys → set (after f rs ys i) i (f (get_or rs i d)) ≡ after f rs ys (i + 1)
  unfolding after
  after-step i d hr hy =
      let h : i < length (map f rs) = omega (arith, length-map rs f) in
      ap (λ (l : List B). set (take i (map f rs) ++ l) i (f (get_or rs i d))) (drop-cons ys i (f d) hy)
      ∙ set_at (take i (map f rs)) (get_or ys i (f d)) (drop (suc i) ys) (f (get_or rs i d)) i (length-take-le i (map f rs) (le_of_lt h))
      ∙ sym (append_snoc (take i (map f rs)) (f (get_or rs i d)) (drop (suc i) ys))
      ∙ ap (λ (x : B). (take i (map f rs) ++ (x ∷ [])) ++ drop (suc i) ys) (sym (List·get_d-map f rs i d))
      ∙ ap (λ (l : List B). l ++ drop (suc i) ys) (sym (take-suc (map f rs) i (f d) h))
      ∙ ap (λ (j : ℕ). take j (map f rs) ++ drop j ys) (sym (add-one i))

  -- AFTER THE LAST ONE each element of the other row has filled its place, and the rest is as it was
  pub at_last : after f rs ys (length rs) ≡ filled (map f rs) ys
  unfolding after filled
  at_last = rw (take_all (length rs) (map f rs) (omega (arith, length-map rs f)), length-map)

-- A row that is looked at through a function: what is stored is looked at too
pub map-set : {A B : Type 0} (g : A → B) (l : List A) (i : ℕ) (x : A) → map g (set l i x) ≡ set (map g l) i (g x)
map-set g [] i x = refl
map-set g (y ∷ l) zero x = refl
map-set g (y ∷ l) (suc i) x = ap (λ (r : List _). g y ∷ r) (map-set g l i x)
