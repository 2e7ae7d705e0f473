-- Places: a bank's rise, and what a list's places are, those of its eligible models are. Where places differ, an eligible model stands
-- in the ranking once, and each is better than all after it. Assumes nothing.
use Rattle.rules.proofs.Kit.{ℕ, zero, suc, ◌<◌, ◌≡◌, refl, sym, subst, ◌∙◌, Bool, true, false, cond, ◌⊎◌, inl, inr, List, [], ◌∷◌, List-as-Memᴰ, List·Memᴰ·head}
use Rattle.rules.proofs.Kit.{List·Memᴰ·tail, List-as-Permᴰ, Permᴰ·symm, arith, eq-eqb, ne_eqb, eqb, length}
use Rattle.rules.specs.{Choice.equal, Order.Each, Order.Pairs, Records.Listed, Records.listed_from, Records.listed_of, Records.records_in, Numbers.where_eligible}
use Rattle.rules.specs.{Verdict.Judged, Verdict.judged, Rank.Candidate, Rank.candidate_of, Rank.better, Rank.eligibles, Rank.ranking}
use Rattle.rules.specs.{declared.records.KernelInput.KernelInput, declared.records.PolicySnapshot.PolicySnapshot}
use Rattle.rules.proofs.{Sorted.each-so, Sorted.each-moved, Better.one_is_better, Better.ranking_in_order, Better.judged_each, Better.eligibles_each}
use Rattle.demands.specs.{Lists.Rising, Ranked.Beats, Ranked.InStrictOrder, Ranked.judged_of, Ranked.PlacesRise, Ranked.PlacesDiffer, Ranked.many_at}
use Rattle.demands.proofs.{Lists.pairs-both, Lists.rising-different, Lists.each_member, Lists.pairs-moved, Lists.many-none, Ranking.ranking_permutes}
use Rattle.demands.proofs.{Ranking.ranking_counts}

-- ---- the places of a bank

later_in_bank : (bank : List ℕ) (k place n : ℕ) → k < place → Each (λ l. k < l.place) (listed_from bank place n)
later_in_bank bank k place zero h = tt
later_in_bank bank k place (suc n) h = (h, later_in_bank bank k (suc place) n (omega arith))

rising_from : (bank : List ℕ) (place n : ℕ) → Rising (λ (l : Listed). l.place) (listed_from bank place n)
rising_from bank place zero = tt
rising_from bank place (suc n) = (later_in_bank bank place (suc place) n (omega arith), rising_from bank (suc place) n)

-- Demand 2. The places of a bank rise
pub bank_rising : (bank : List ℕ) → Rising (λ (l : Listed). l.place) (listed_of bank)
unfolding listed_of
bank_rising bank = rising_from bank 0 (records_in (length bank))

-- ---- judging a record leaves its place, and so does keeping the eligible ones

judged_pairs : (p : PolicySnapshot) (q : KernelInput) (R : ℕ → ℕ → Type 0) (ls : List Listed) → Pairs (λ a b. R a.place b.place) ls
    → Pairs (λ a b. R a.listed.place b.listed.place) (judged p q ls)
judged_pairs p q R [] h = tt
judged_pairs p q R (l ∷ ls) h = (judged_each p q (R l.place) ls h.0, judged_pairs p q R ls h.1)

eligibles_pairs : (R : ℕ → ℕ → Type 0) (js : List Judged) → Pairs (λ a b. R a.listed.place b.listed.place) js
    → Pairs (λ a b. R a.place b.place) (eligibles js)
unfolding equal
eligibles_pairs R [] h = tt
eligibles_pairs R (j ∷ js) h = go (eqb j.verdict.kind 4) (eligibles_pairs R js h.1)
  where
    go : (t : Bool) → Pairs (λ a b. R a.place b.place) (eligibles js)
        → Pairs (λ a b. R a.place b.place) (cond t (candidate_of j ∷ eligibles js) (eligibles js))
    go true r = (eligibles_each (R j.listed.place) js h.0, r)
    go false r = r

-- where the places of a list rise, those of its judged records do, and of its eligible models; and so with every record of a bank
pub judged_rise : (p : PolicySnapshot) (q : KernelInput) (ls : List Listed) → Rising (λ (l : Listed). l.place) ls → PlacesRise (judged p q ls)
judged_rise p q ls h = judged_pairs p q (λ a b. a < b) ls h

pub judged_rising : (p : PolicySnapshot) (q : KernelInput) (bank : List ℕ) → PlacesRise (judged_of p q bank)
judged_rising p q bank = judged_rise p q (listed_of bank) (bank_rising bank)

pub eligibles_rising : (js : List Judged) → PlacesRise js → Rising (λ (c : Candidate). c.place) (eligibles js)
eligibles_rising js h = eligibles_pairs (λ a b. a < b) js h

pub rising_differ : (js : List Judged) → PlacesRise js → PlacesDiffer js
rising_differ js h = rising-different (λ (j : Judged). j.listed.place) js h

pub judged_different : (p : PolicySnapshot) (q : KernelInput) (bank : List ℕ) → PlacesDiffer (judged_of p q bank)
judged_different p q bank = rising_differ (judged_of p q bank) (judged_rising p q bank)

-- ---- exactly once

module _ (x : Judged) (xs : List Judged) (k : ℕ) where
  -- a record at another place counts for nothing
  not_there : (x.listed.place ≡ k → ⊥) → many_at k (eligibles (x ∷ xs)) ≡ many_at k (eligibles xs)
  unfolding equal
  not_there d = go (eqb x.verdict.kind 4)
    where
      go : (t : Bool) → many_at k (cond t (candidate_of x ∷ eligibles xs) (eligibles xs)) ≡ many_at k (eligibles xs)
      go true = rw (ne_eqb x.listed.place k d)
      go false = refl

  -- a record at this place counts once, where it is eligible and no other is there
  there-once : x.listed.place ≡ k → many_at k (eligibles xs) ≡ 0 → many_at k (eligibles (x ∷ xs)) ≡ where_eligible x.verdict 1 0
  unfolding equal
  there-once e z = go (eqb x.verdict.kind 4)
    where
      go : (t : Bool) → many_at k (cond t (candidate_of x ∷ eligibles xs) (eligibles xs)) ≡ cond t 1 0
      go true = rw (eq-eqb x.listed.place k e, z)
      go false = z

none_there : (k : ℕ) (js : List Judged) → Each (λ j. k ≡ j.listed.place → ⊥) js → many_at k (eligibles js) ≡ 0
none_there k js h =
    many-none (λ c. eqb c.place k) (eligibles js)
    (each-so (λ c. k ≡ c.place → ⊥) (λ c. eqb c.place k ≡ false) (λ c d. ne_eqb c.place k (λ e. d (sym e))) (eligibles js)
    (eligibles_each (λ n. k ≡ n → ⊥) js h))

eligible_once : (j : Judged) (js : List Judged) → PlacesDiffer js → List-as-Memᴰ j js → many_at j.listed.place (eligibles js) ≡ where_eligible j.verdict 1 0
eligible_once j js d (List·Memᴰ·head {x = x} {xs = xs} e) =
    rw e (there-once x xs x.listed.place refl (none_there x.listed.place xs d.0))
eligible_once j js d (List·Memᴰ·tail {x = x} {xs = xs} m) =
    not_there x xs j.listed.place (each_member (λ (y : Judged). x.listed.place ≡ y.listed.place → ⊥) d.0 m) ∙ eligible_once j xs d.1 m

-- Demand 2. Where places differ, the ranking has a record's place exactly once where the record is eligible, and else not at all
pub ranked_once : (js : List Judged) (j : Judged) → PlacesDiffer js → List-as-Memᴰ j js → many_at j.listed.place (ranking js) ≡ where_eligible j.verdict 1 0
ranked_once js j d m = ranking_counts (λ c. eqb c.place j.listed.place) js ∙ eligible_once j js d m

-- ---- first and second

-- Demand 2. Where places differ, each of the ranking is better than every one after it
pub ranking_strict : (js : List Judged) → PlacesDiffer js → InStrictOrder (ranking js)
ranking_strict js d =
    pairs-both (λ a b. a.place ≡ b.place → ⊥) (λ a b. better b a ≡ false) Beats one_is_better (ranking js)
    (pairs-moved (λ a b. a.place ≡ b.place → ⊥) (λ a b n e. n (sym e)) (Permᴰ·symm (ranking_permutes js)) (eligibles_pairs (λ a b. a ≡ b → ⊥) js d))
    (ranking_in_order js)

module _ (js : List Judged) (places : PlacesDiffer js) where
  -- Demand 2. The first of the ranking is better than every one after it
  pub first-beats-rest : (c : Candidate) (rest : List Candidate) → ranking js ≡ c ∷ rest → Each (Beats c) rest
  first-beats-rest c rest e = (subst InStrictOrder e (ranking_strict js places)).0

  -- Demand 2. The first of the ranking, which is chosen, is better than every other eligible model
  pub first-beats-all : (c : Candidate) (rest : List Candidate) → ranking js ≡ c ∷ rest → Each (λ x. (x ≡ c) ⊎ Beats c x) (eligibles js)
  first-beats-all c rest e =
      each-moved (λ x. (x ≡ c) ⊎ Beats c x) (subst (λ cs. List-as-Permᴰ cs (eligibles js)) e (ranking_permutes js))
      (inl refl, each-so (Beats c) (λ x. (x ≡ c) ⊎ Beats c x) (λ x p. inr p) rest (first-beats-rest c rest e))

  -- Demand 2. The second is better than every one after it
  pub second-beats-rest : (c d : Candidate) (rest : List Candidate) → ranking js ≡ c ∷ d ∷ rest → Each (Beats d) rest
  second-beats-rest c d rest e = (subst InStrictOrder e (ranking_strict js places)).1.0

  -- Demand 2. The second, which is the counterfactual, is better than every eligible model but itself and the chosen one
  pub second-beats-others : (c d : Candidate) (rest : List Candidate) → ranking js ≡ c ∷ d ∷ rest → Each (λ x. (x ≡ c) ⊎ (x ≡ d) ⊎ Beats d x) (eligibles js)
  second-beats-others c d rest e =
      each-moved (λ x. (x ≡ c) ⊎ (x ≡ d) ⊎ Beats d x) (subst (λ cs. List-as-Permᴰ cs (eligibles js)) e (ranking_permutes js))
      (inl refl, (inr (inl refl), each-so (Beats d) (λ x. (x ≡ c) ⊎ (x ≡ d) ⊎ Beats d x) (λ x p. inr (inr p)) rest (second-beats-rest c d rest e)))
