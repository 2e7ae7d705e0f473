-- The order of candidates as a scan holds them: strict, by five keys one after the other, and the rules' order. Assumes nothing.
use Rattle.rules.proofs.Kit.{ℕ, ◌+◌, ◌<◌, ◌^◌, arith, ◌≡◌, refl, sym, subst, ◌∙◌, Bool, true, false, false≢true, ltb-true, ltb-false, lt-ltb, le-ltb, leb-false}
use Rattle.rules.proofs.Kit.{ltb, ℤ, pos, negsuc, le_z}
use Rattle.rules.specs.Choice.{lower, higher}
use Rattle.rules.proofs.{Choices.lower-yes, Strict.Strict, Strict.before-through, Strict.numbers, Strict.turned, Strict.first, Strict.level_all}
use Rattle.pricing_terms.specs.Score.{scored}
use Rattle.kernel_verdict.specs.declared.Candidate.{Candidate}
use Rattle.kernel_ranking.specs.State.{held_of, nobody, earlier_of, cheaper_of, better_of}
use Rattle.rules.specs.Rank as rank

pub clash : {b : Bool} {A : Type 0} → b ≡ true → b ≡ false → A
clash e f = absurd (false≢true (sym f ∙ e))

-- ---- all keys

-- Two that are level by each key are one candidate
abbrev Level : Candidate → Candidate → Type 0
Level a b =
    (a.score ≡ b.score) × ((a.cost ≡ b.cost) × ((a.quality_bps ≡ b.quality_bps)
    × ((a.model_id ≡ b.model_id) × ((a.model_index ≡ b.model_index) × Unit {0}))))

one : (a b : Candidate) → Level a b → a ≡ b
one a b k =
    λ i. record {
      model_id = k.1.1.1.0 i;
      model_index = k.1.1.1.1.0 i;
      quality_bps = k.1.1.0 i;
      cost = k.1.0 i;
      score = k.0 i;
    }

-- THE ORDER OF CANDIDATES AS THEY ARE HELD IS STRICT
pub five : Strict better_of Level
unfolding better_of cheaper_of earlier_of lower
five =
    first (λ (c : Candidate). c.score) (turned numbers)
    (first (λ (c : Candidate). c.cost) numbers
    (first (λ (c : Candidate). c.quality_bps) (turned numbers)
    (first (λ (c : Candidate). c.model_id) numbers
    (first (λ (c : Candidate). c.model_index) numbers level_all))))

-- WHAT IS BETTER THAN THE FIRST IS BETTER THAN THE SECOND
pub better_through : (c x y : Candidate) → better_of c x ≡ true → better_of y x ≡ false → better_of c y ≡ true
better_through c x y = before-through five (λ a b d k. subst (λ (e : Candidate). better_of d e ≡ true) (one a b k)) c x y

-- ---- scores

-- Above 0
abbrev pub Positive : ℤ → Type 0
Positive (pos n) = 0 < n
Positive (negsuc n) = ⊥

pub positive : (u : ℤ) → le_z u (pos 0) ≡ false → Positive u
positive (pos n) e = leb-false n 0 e
positive (negsuc n) e = clash refl e

shifted : (k a b : ℕ) → ltb (k + a) (k + b) ≡ ltb a b
shifted k a b = go (ltb a b) refl
  where
    go : (t : Bool) → ltb a b ≡ t → ltb (k + a) (k + b) ≡ t
    go true e = lt-ltb (k + a) (k + b) (omega (arith, ltb-true a b e))
    go false e = le-ltb (k + a) (k + b) (omega (arith, ltb-false a b e))

-- The higher utility has the higher score
score_order : (u v : ℤ) (rest : Bool) → Positive u → Positive v → lower (scored v) (scored u) rest ≡ higher u v rest
unfolding scored lower higher
score_order (pos a) (pos b) rest h k = rw (shifted (2 ^ 63) b a, shifted (2 ^ 63) a b)
score_order (pos a) (negsuc b) rest h k = absurd k
score_order (negsuc a) v rest h k = absurd h

score_high : (u : ℤ) → Positive u → 2 ^ 63 < scored u
unfolding scored
score_high (pos n) h = omega arith
score_high (negsuc n) h = absurd h

-- THE ORDER BY SCORES IS THE RULES' ORDER
pub better-held : (a b : rank.Candidate) → Positive a.utility → Positive b.utility → better_of (held_of a) (held_of b) ≡ rank.better a b
unfolding better_of cheaper_of earlier_of held_of rank.better
better-held a b h k = score_order a.utility b.utility _ h k

-- NOBODY LOSES TO EVERY ELIGIBLE MODEL
pub better-nobody : (c : rank.Candidate) → Positive c.utility → better_of (held_of c) nobody ≡ true
unfolding better_of held_of nobody
better-nobody c h = lower-yes (2 ^ 63) (scored c.utility) _ (score_high c.utility h)
