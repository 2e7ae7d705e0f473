-- `better` orders candidates strictly, by five keys one after the other, and tells two with different places apart; so the laws of lists in
-- order hold for the ranking. Assumes nothing.
use Rattle.rules.proofs.Kit.{ℕ, ◌≡◌, refl, sym, ap, Bool, true, false, cond, not, List, [], ◌∷◌, ◌++◌, eqb}
use Rattle.rules.specs.{Choice.equal, Choice.lower, Choice.higher, Order.sorted_by, Order.Each, Order.InOrder, Records.Listed, Verdict.Judged}
use Rattle.rules.specs.{Verdict.judged, Rank.Candidate, Rank.candidate_of, Rank.better, Rank.eligibles, Rank.ranking}
use Rattle.rules.specs.{declared.records.KernelInput.KernelInput, declared.records.PolicySnapshot.PolicySnapshot}
use Rattle.rules.proofs.{Strict.Strict, Strict.one_way, Strict.none_before, Strict.numbers, Strict.integers, Strict.turned, Strict.first}
use Rattle.rules.proofs.{Strict.level_all, Sorted.Apart, Sorted.each-so, Sorted.sorted-in-order, Sorted.sorted-moved}

-- Two that are level by each key
abbrev Level : Candidate → Candidate → Type 0
Level a b =
    (a.utility ≡ b.utility) × ((a.cost ≡ b.cost) × ((a.quality ≡ b.quality) × ((a.id ≡ b.id) × ((a.place ≡ b.place) × Unit {0}))))

five : Strict better Level
unfolding better lower higher
five =
    first (λ (c : Candidate). c.utility) (turned integers)
    (first (λ (c : Candidate). c.cost) numbers
    (first (λ (c : Candidate). c.quality) (turned numbers)
    (first (λ (c : Candidate). c.id) numbers
    (first (λ (c : Candidate). c.place) numbers level_all))))

-- Demand 2. No candidate is better than itself
pub better_not_itself : (a : Candidate) → better a a ≡ false
better_not_itself a = five.itself a

-- Demand 2. Better goes on: what is better than one that is better than a third is better than the third
pub better_goes_on : (a b c : Candidate) → better a b ≡ true → better b c ≡ true → better a c ≡ true
better_goes_on a b c p q = five.runs_on a b c p q

-- Demand 2. Never both ways
pub better_one_way : (a b : Candidate) → better a b ≡ true → better b a ≡ false
better_one_way a b p = one_way five a b p

-- Demand 2. Two of which neither is better have the same five keys, and are one candidate
pub neither_better : (a b : Candidate) → better a b ≡ false → better b a ≡ false → a ≡ b
neither_better a b p q =
    let k = five.neither a b p q in
    λ i. record { utility = k.0 i; cost = k.1.0 i; quality = k.1.1.0 i; id = k.1.1.1.0 i; place = k.1.1.1.1.0 i }

-- what is not better than b is not better than one that is better than b
pub none_above : (a b c : Candidate) → better a b ≡ true → better c b ≡ false → better c a ≡ false
none_above a b c p n = none_before five a b c p n

-- of two with different places, where the second isn't better the first is
pub one_is_better : (a b : Candidate) → (a.place ≡ b.place → ⊥) → better b a ≡ false → better a b ≡ true
one_is_better a b d n = go (better a b) refl
  where
    go : (t : Bool) → better a b ≡ t → t ≡ true
    go true p = refl
    go false p = absurd (d (ap (λ (c : Candidate). c.place) (neither_better a b p n)))

-- TWO WITH DIFFERENT PLACES ARE APART: one is better, and not both
pub places_apart : (a b : Candidate) → (a.place ≡ b.place → ⊥) → Apart better a b
places_apart a b d = go (better a b) refl
  where
    go : (t : Bool) → better a b ≡ t → better b a ≡ not t
    go true p = better_one_way a b p
    go false p = one_is_better b a (λ e. d (sym e)) p

-- ---- the rules' ranking

-- Demand 2. The ranking is in order: none is better than one before it
pub ranking_in_order : (js : List Judged) → InOrder better (ranking js)
unfolding ranking
ranking_in_order js = sorted-in-order five (eligibles js)

-- WHEREVER A CANDIDATE STANDS, of another place than those after it, it may as well come last
pub candidate_moved : (xs : List Candidate) (c : Candidate) (ys : List Candidate) → Each (λ b. c.place ≡ b.place → ⊥) ys
    → sorted_by better (xs ++ c ∷ ys) ≡ sorted_by better ((xs ++ ys) ++ c ∷ [])
candidate_moved xs c ys h = sorted-moved better better_goes_on xs c ys (each-so _ (Apart better c) (λ b. places_apart c b) ys h)

-- ---- what holds for the places of a list holds for those of its judged records and of its eligible models

pub judged_each : (p : PolicySnapshot) (q : KernelInput) (P : ℕ → Type 0) (ls : List Listed) → Each (λ l. P l.place) ls
    → Each (λ j. P j.listed.place) (judged p q ls)
judged_each p q P [] h = tt
judged_each p q P (l ∷ ls) h = (h.0, judged_each p q P ls h.1)

pub eligibles_each : (P : ℕ → Type 0) (js : List Judged) → Each (λ j. P j.listed.place) js → Each (λ c. P c.place) (eligibles js)
unfolding equal
eligibles_each P [] h = tt
eligibles_each P (j ∷ js) h = go (eqb j.verdict.kind 4) (eligibles_each P js h.1)
  where
    go : (t : Bool) → Each (λ c. P c.place) (eligibles js) → Each (λ c. P c.place) (cond t (candidate_of j ∷ eligibles js) (eligibles js))
    go true r = (h.0, r)
    go false r = r
