-- Strict orders: of numbers and of integers, turned round, by a key, and by one key after the other. Assumes nothing.
use Rattle.rules.proofs.Kit.{◌≡◌, refl, sym, ap, ◌∙◌, Bool, true, false, false≢true, ◌⊎◌, inl, inr, arith, lt-ltb, le-ltb, ltb-true, ltb-false, ltb, ℤ}
use Rattle.rules.proofs.Kit.{pos, negsuc, lt_z}
use Rattle.rules.specs.Choice.{firstly}

-- A test that orders strictly: none is before itself, before goes on, and two of which neither is before the other are the same
pub record Strict {A : Type 0} (before : A → A → Bool) (Same : A → A → Type 0) : Type 0 where
  pub itself : (a : A) → before a a ≡ false
  pub runs_on : (a b c : A) → before a b ≡ true → before b c ≡ true → before a c ≡ true
  pub neither : (a b : A) → before a b ≡ false → before b a ≡ false → Same a b

module _ {A : Type 0} {before : A → A → Bool} {Same : A → A → Type 0} (s : Strict before Same) where
  -- NEVER BOTH WAYS
  pub one_way : (a b : A) → before a b ≡ true → before b a ≡ false
  one_way a b p = go (before b a) refl
    where
      go : (t : Bool) → before b a ≡ t → t ≡ false
      go true q = absurd (false≢true (sym (s.itself a) ∙ s.runs_on a b a p q))
      go false q = refl

  -- what is not before b is not before one that is before b
  pub none_before : (a b c : A) → before a b ≡ true → before c b ≡ false → before c a ≡ false
  none_before a b c p n = go (before c a) refl
    where
      go : (t : Bool) → before c a ≡ t → t ≡ false
      go true q = absurd (false≢true (sym n ∙ s.runs_on c a b q p))
      go false q = refl

  -- what is before a is before one that isn't before a, where what is before one is before the same
  pub before-through : ((a b c : A) → Same a b → before c a ≡ true → before c b ≡ true) → (c a b : A) → before c a ≡ true → before b a ≡ false
      → before c b ≡ true
  before-through same c a b p n = go (before a b) refl
    where
      go : (t : Bool) → before a b ≡ t → before c b ≡ true
      go true q = s.runs_on c a b p q
      go false q = same a b c (s.neither a b q n) p

-- ---- numbers and integers, and their orders turned round

pub numbers : Strict ltb (λ a b. a ≡ b)
numbers =
    record {
      itself = λ a. le-ltb a a (omega arith);
      runs_on = λ a b c p q. lt-ltb a c (omega (arith, ltb-true a b p, ltb-true b c q));
      neither = λ a b p q. omega (arith, ltb-false a b p, ltb-false b a q);
    }

itself_z : (a : ℤ) → lt_z a a ≡ false
itself_z (pos a) = numbers.itself a
itself_z (negsuc a) = numbers.itself a

goes_on_z : (a b c : ℤ) → lt_z a b ≡ true → lt_z b c ≡ true → lt_z a c ≡ true
goes_on_z (pos a) (pos b) (pos c) p q = numbers.runs_on a b c p q
goes_on_z (pos a) (pos b) (negsuc c) p q = absurd (false≢true q)
goes_on_z (pos a) (negsuc b) c p q = absurd (false≢true p)
goes_on_z (negsuc a) b (pos c) p q = refl
goes_on_z (negsuc a) (pos b) (negsuc c) p q = absurd (false≢true q)
goes_on_z (negsuc a) (negsuc b) (negsuc c) p q = numbers.runs_on c b a q p

neither_z : (a b : ℤ) → lt_z a b ≡ false → lt_z b a ≡ false → a ≡ b
neither_z (pos a) (pos b) p q = ap pos (numbers.neither a b p q)
neither_z (pos a) (negsuc b) p q = absurd (false≢true (sym q))
neither_z (negsuc a) (pos b) p q = absurd (false≢true (sym p))
neither_z (negsuc a) (negsuc b) p q = ap negsuc (numbers.neither a b q p)

pub integers : Strict lt_z (λ a b. a ≡ b)
integers = record { itself = itself_z; runs_on = goes_on_z; neither = neither_z }

pub turned : {K : Type 0} {before : K → K → Bool} → Strict before (λ a b. a ≡ b) → Strict (λ a b. before b a) (λ a b. a ≡ b)
turned s =
    record { itself = s.itself; runs_on = λ a b c p q. s.runs_on c b a q p; neither = λ a b p q. s.neither a b q p }

-- ---- by a key

pub by_key : {A K : Type 0} {before : K → K → Bool} (key : A → K) → Strict before (λ a b. a ≡ b)
    → Strict (λ a b. before (key a) (key b)) (λ a b. key a ≡ key b)
by_key key s =
    record {
      itself = λ a. s.itself (key a);
      runs_on = λ a b c. s.runs_on (key a) (key b) (key c);
      neither = λ a b. s.neither (key a) (key b);
    }

-- ---- a key that comes first, with a strict order after it, is a strict order

abbrev pub keyed : {A K : Type 0} → (K → K → Bool) → (A → K) → (A → A → Bool) → A → A → Bool
keyed before key rest a b = firstly (before (key a) (key b)) (before (key b) (key a)) (rest a b)

module _ {A K : Type 0} {before : K → K → Bool} {rest : A → A → Bool} {Same : A → A → Type 0} (key : A → K)
    (s : Strict before (λ a b. a ≡ b)) (r : Strict rest Same) where
  abbrev Ahead : A → A → Type 0
  Ahead a b = (before (key a) (key b) ≡ true) ⊎ ((key a ≡ key b) × (rest a b ≡ true))

  ahead : (a b : A) → before (key a) (key b) ≡ true → keyed before key rest a b ≡ true
  ahead a b p = rw p

  level : (a b : A) → key a ≡ key b → keyed before key rest a b ≡ rest a b
  level a b e = rw (e, s.itself (key b))

  wins : (a b : A) → keyed before key rest a b ≡ true → Ahead a b
  wins a b e = go (before (key a) (key b)) (before (key b) (key a)) refl refl e
    where
      go : (t u : Bool) → before (key a) (key b) ≡ t → before (key b) (key a) ≡ u → firstly t u (rest a b) ≡ true → Ahead a b
      go true u p q e = inl p
      go false true p q e = absurd (false≢true e)
      go false false p q e = inr (s.neither (key a) (key b) p q, e)

  ties : (a b : A) → keyed before key rest a b ≡ false → keyed before key rest b a ≡ false → (key a ≡ key b) × Same a b
  ties a b e f = go (before (key a) (key b)) (before (key b) (key a)) refl refl e f
    where
      go : (t u : Bool) → before (key a) (key b) ≡ t → before (key b) (key a) ≡ u → firstly t u (rest a b) ≡ false → firstly u t (rest b a) ≡ false
          → (key a ≡ key b) × Same a b
      go true u p q e f = absurd (false≢true (sym e))
      go false true p q e f = absurd (false≢true (sym f))
      go false false p q e f = (s.neither (key a) (key b) p q, r.neither a b e f)

  after : (a b c : A) → keyed before key rest a b ≡ true → keyed before key rest b c ≡ true → keyed before key rest a c ≡ true
  after a b c e f = go (wins a b e) (wins b c f)
    where
      go : Ahead a b → Ahead b c → keyed before key rest a c ≡ true
      go (inl p) (inl q) = ahead a c (s.runs_on (key a) (key b) (key c) p q)
      go (inl p) (inr q) = ahead a c (rw (← q.0) p)
      go (inr p) (inl q) = ahead a c (rw p.0 q)
      go (inr p) (inr q) = level a c (p.0 ∙ q.0) ∙ r.runs_on a b c p.1 q.1

  pub first : Strict (keyed before key rest) (λ a b. (key a ≡ key b) × Same a b)
  first =
      record { itself = λ a. level a a refl ∙ r.itself a; runs_on = after; neither = ties }

-- after the last key
pub level_all : {A : Type 0} → Strict {A = A} (λ a b. false) (λ a b. Unit {0})
level_all = record { itself = λ a. refl; runs_on = λ a b c p q. p; neither = λ a b p q. tt }
