-- The first two of a ranking, candidate by candidate. Assumes nothing.
use Rattle.rules.proofs.Kit.{◌≡◌, refl, sym, ◌∙◌, Bool, true, false, cond, List, [], ◌∷◌}
use Rattle.rules.specs.{Order.insert_by, Order.Each, Order.InOrder, Rank.Candidate, Rank.better}
use Rattle.kernel_ranking.specs.State.{held_of, top_two, top_of, ranked_of}
use Rattle.kernel_ranking.proofs.Orders.{clash, Positive, better_through, better-held, better-nobody}

-- Each utility is above 0
abbrev pub AllPositive : List Candidate → Type 0
AllPositive cs = Each (λ c. Positive c.utility) cs

-- THE FIRST TWO, ONE CANDIDATE LATER: what is not better than the second leaves both as they are
pub top_insert : (cs : List Candidate) (c : Candidate) → AllPositive cs → InOrder better cs → Positive c.utility
    → top_of (insert_by better cs c) ≡ ranked_of (top_of cs) (held_of c)
unfolding ranked_of
top_insert [] c a o h = rw (better-nobody c h)
top_insert (x ∷ []) c a o h = rw (better-nobody c h, better-held c x h a.0) (one (better c x))
  where
    one : (t : Bool) → top_of (cond t (c ∷ x ∷ []) (x ∷ c ∷ [])) ≡ cond t (top_two (held_of c) (held_of x)) (top_two (held_of x) (held_of c))
    one true = refl
    one false = refl
top_insert (x ∷ y ∷ zs) c a o h =
    rw (better-held c x h a.0, better-held c y h a.1.0)
    (many (better c x) (better c y) λ e. sym (better-held c y h a.1.0)
    ∙ better_through (held_of c) (held_of x) (held_of y) (better-held c x h a.0 ∙ e) (better-held y x a.1.0 a.0 ∙ o.0.0))
  where
    many : (t u : Bool) → (t ≡ true → u ≡ true) → top_of (cond t (c ∷ x ∷ y ∷ zs) (x ∷ cond u (c ∷ y ∷ zs) (y ∷ insert_by better zs c)))
        ≡ cond u (cond t (top_two (held_of c) (held_of x)) (top_two (held_of x) (held_of c))) (top_two (held_of x) (held_of y))
    many true true k = refl
    many true false k = clash (k refl) refl
    many false true k = refl
    many false false k = refl
