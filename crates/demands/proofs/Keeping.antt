-- The Rust's loop keeps the first two of the ranking: where places rise, its test without the place and `better` agree on a new candidate
-- and one that is kept. Assumes nothing.
use Rattle.rules.proofs.Kit.{ℕ, ◌<◌, ◌≡◌, refl, sym, ◌∙◌, Bool, true, false, cond, ◌&&◌, ◌||◌, List, [], ◌∷◌, foldl, some, arith, ltb-true, ltb-false, eq-eqb}
use Rattle.rules.proofs.Kit.{ne_eqb, eqb, ltb, ℤ, pos, negsuc, lt_z}
use Rattle.rules.specs.{Choice.firstly, Choice.lower, Choice.higher, Order.insert_by, Order.sorted_by, Order.Each, Verdict.Judged, Rank.Candidate, Rank.better}
use Rattle.rules.specs.{Rank.eligibles, Rank.ranking, declared.records.KernelInput.KernelInput, declared.records.PolicySnapshot.PolicySnapshot}
use Rattle.rules.proofs.{Sorted.insert-each, Choices.lower-no, Choices.lower_last}
use Rattle.demands.specs.{Lists.Rising, Ranked.judged_of, Ranked.PlacesRise, Keeping.eq_z, Keeping.better_in_rust, Keeping.two, Keeping.turn}
use Rattle.demands.specs.{Keeping.kept_in_rust, Keeping.first_two}
use Rattle.demands.proofs.{Lists.each_both, Places.judged_rising, Places.eligibles_rising}

-- ---- the Rust's test, key by key

-- a key's test, or the same key and the rest
module _ (a b : ℕ) (same r : Bool) (alike : a ≡ b → same ≡ true) (unlike : (a ≡ b → ⊥) → same ≡ false) where
  by_number : (ltb a b || (same && r)) ≡ lower a b r
  unfolding lower
  by_number = go (ltb a b) (ltb b a) refl refl
    where
      go : (t u : Bool) → ltb a b ≡ t → ltb b a ≡ u → (t || (same && r)) ≡ firstly t u r
      go true u p q = refl
      go false true p q = rw (unlike (omega (arith, ltb-true b a q)))
      go false false p q = rw (alike (omega (arith, ltb-false a b p, ltb-false b a q)))

lower_first : (a b : ℕ) (r : Bool) → (ltb a b || (eqb a b && r)) ≡ lower a b r
lower_first a b r = by_number a b (eqb a b) r (eq-eqb a b) (ne_eqb a b)

higher_first : (a b : ℕ) (r : Bool) → (ltb b a || (eqb a b && r)) ≡ lower b a r
higher_first a b r = by_number b a (eqb a b) r (λ e. eq-eqb a b (sym e)) (λ d. ne_eqb a b (λ e. d (sym e)))

by_integer : (a b : ℤ) (r : Bool) → (lt_z b a || (eq_z a b && r)) ≡ higher a b r
unfolding higher lower
by_integer (pos a) (pos b) r = higher_first a b r
by_integer (pos a) (negsuc b) r = refl
by_integer (negsuc a) (pos b) r = refl
by_integer (negsuc a) (negsuc b) r = lower_first a b r

-- four tests in a row are one inside the other
nested : (u e c f q g i : Bool) → (u || (e && c) || (e && f && q) || (e && f && g && i)) ≡ (u || (e && (c || (f && (q || (g && i))))))
nested true e c f q g i = refl
nested false false c f q g i = refl
nested false true true f q g i = refl
nested false true false false q g i = refl
nested false true false true true g i = refl
nested false true false true false g i = refl

in_turn : (a b : Candidate) → better_in_rust a b
    ≡ higher a.utility b.utility (lower a.cost b.cost (lower b.quality a.quality (lower a.id b.id false)))
unfolding better_in_rust
in_turn a b =
    nested (lt_z b.utility a.utility) (eq_z a.utility b.utility) (ltb a.cost b.cost) (eqb a.cost b.cost) (ltb b.quality a.quality)
    (eqb a.quality b.quality) (ltb a.id b.id)
    ∙ rw (
      higher_first a.quality b.quality (ltb a.id b.id),
      lower_first a.cost b.cost,
      by_integer a.utility b.utility,
      ← lower_last a.id b.id,
    )

-- on a later candidate and an earlier one the two tests agree
pub same_test : (later earlier : Candidate) → earlier.place < later.place → better_in_rust later earlier ≡ better later earlier
unfolding better
same_test a b h = in_turn a b ∙ rw (lower-no a.place b.place false h)

-- ---- the loop

turn_insert : (xs : List Candidate) (c : Candidate) → Each (λ x. x.place < c.place) xs → first_two (insert_by better xs c) ≡ turn (first_two xs) c
unfolding turn
turn_insert [] c h = refl
turn_insert (x ∷ []) c h = rw (same_test c x h.0) (go (better c x))
  where
    go : (t : Bool) → first_two (cond t (c ∷ x ∷ []) (x ∷ c ∷ [])) ≡ cond t (two (some c) (some x)) (two (some x) (some c))
    go true = refl
    go false = refl
turn_insert (x ∷ y ∷ zs) c h = rw (same_test c x h.0, same_test c y h.1.0) (go (better c x) (better c y))
  where
    go : (t u : Bool) → first_two (cond t (c ∷ x ∷ y ∷ zs) (x ∷ cond u (c ∷ y ∷ zs) (y ∷ insert_by better zs c)))
        ≡ cond t (two (some c) (some x)) (cond u (two (some x) (some c)) (two (some x) (some y)))
    go true u = refl
    go false true = refl
    go false false = refl

kept_from : (cs acc : List Candidate) → Rising (λ (c : Candidate). c.place) cs → Each (λ c. Each (λ x. x.place < c.place) acc) cs
    → foldl turn (first_two acc) cs ≡ first_two (foldl (insert_by better) acc cs)
kept_from [] acc h k = refl
kept_from (c ∷ cs) acc h k =
    rw (← turn_insert acc c k.0)
    (kept_from cs (insert_by better acc c) h.1
    (each_both (λ d. c.place < d.place) (λ d. Each (λ x. x.place < d.place) acc) (λ d. Each (λ x. x.place < d.place) (insert_by better acc c))
    (λ d p q. insert-each better (λ x. x.place < d.place) acc c p q) cs h.0 k.1))

nothing_before : (cs : List Candidate) → Each (λ c. Each (λ (x : Candidate). x.place < c.place) []) cs
nothing_before [] = tt
nothing_before (c ∷ cs) = (tt, nothing_before cs)

-- Demand 2. Over candidates whose places rise, the Rust's loop ends with the first two in order: where the first four keys are level, the
-- earlier place keeps its rank, though the Rust never compares places
pub rust_keeps_first_two : (cs : List Candidate) → Rising (λ (c : Candidate). c.place) cs → kept_in_rust cs ≡ first_two (sorted_by better cs)
unfolding kept_in_rust
rust_keeps_first_two cs h = kept_from cs [] h (nothing_before cs)

-- Demand 2. So over any list whose places rise it ends with the first two of the ranking
pub rust_keeps_ranking : (js : List Judged) → PlacesRise js → kept_in_rust (eligibles js) ≡ first_two (ranking js)
unfolding ranking
rust_keeps_ranking js h = rust_keeps_first_two (eligibles js) (eligibles_rising js h)

-- Demand 2. And so over every bank
pub rust_keeps_of_bank : (p : PolicySnapshot) (q : KernelInput) (bank : List ℕ)
    → kept_in_rust (eligibles (judged_of p q bank)) ≡ first_two (ranking (judged_of p q bank))
rust_keeps_of_bank p q bank = rust_keeps_ranking (judged_of p q bank) (judged_rising p q bank)
