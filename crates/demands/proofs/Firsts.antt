-- The first of the ranking is the chosen record: the eligible one that no eligible one ranks before, by any rule of cost. Assumes nothing.
use Rattle.rules.proofs.Kit.{◌≡◌, refl, sym, ap, subst, ◌∙◌, Bool, true, false, cond, ⊎_elim, List, [], ◌∷◌, List-as-Memᴰ, List·Memᴰ·head, List·Memᴰ·tail}
use Rattle.rules.proofs.Kit.{List·Memᴰ·not-nil, List·Memᴰ·cases-cons, Permᴰ·symm, eqb-true, eq-eqb, eqb}
use Rattle.rules.specs.{Choice.equal, Order.Each, Order.InOrder, Records.Listed, Price.Cost, Verdict.Judged, Verdict.judge_by, Verdict.judged_by}
use Rattle.rules.specs.{Rank.Candidate}
use Rattle.rules.specs.{Rank.candidate_of, Rank.better, Rank.eligibles, Rank.ranking, declared.records.KernelInput.KernelInput}
use Rattle.rules.specs.{declared.records.PolicySnapshot.PolicySnapshot}
use Rattle.rules.proofs.{Sorted.each-moved, Better.ranking_in_order, Better.better_not_itself, Better.neither_better}
use Rattle.demands.specs.Standing.{Eligible, Chosen}
use Rattle.demands.proofs.{Lists.each_member, Ranking.ranking_permutes}

-- ---- the first of the ranking

-- what holds for every member holds for each
each_of : {A : Type 0} (P : A → Type 0) (xs : List A) → ((x : A) → List-as-Memᴰ x xs → P x) → Each P xs
each_of P [] f = tt
each_of P (x ∷ xs) f = (f x (List·Memᴰ·head refl), each_of P xs (λ y m. f y (List·Memᴰ·tail m)))

module _ (js : List Judged) where
  -- is an eligible one that none ranks before
  first-top : (c : Candidate) (rest : List Candidate) → ranking js ≡ c ∷ rest → List-as-Memᴰ c (eligibles js) × Each (λ x. better x c ≡ false) (eligibles js)
  first-top c rest e = (
    (subst (λ cs. Each (λ x. List-as-Memᴰ x (eligibles js)) cs) e (each-moved _ (Permᴰ·symm (ranking_permutes js)) (each_of _ (eligibles js) (λ x m. m)))).0,
    each-moved _ (ranking_permutes js)
        (subst (λ cs. Each (λ x. better x c ≡ false) cs) (sym e)
        (better_not_itself c, (subst (InOrder better) e (ranking_in_order js)).0)),
  )

  -- and such a one is the first
  top-first : (c : Candidate) → List-as-Memᴰ c (eligibles js) → Each (λ x. better x c ≡ false) (eligibles js) → (rest : List Candidate) × (ranking js ≡ c ∷ rest)
  top-first c m t = go (ranking js) refl
    where
      go : (cs : List Candidate) → ranking js ≡ cs → (rest : List Candidate) × (ranking js ≡ c ∷ rest)
      go [] e =
          absurd (each_member (λ (x : Candidate). ⊥)
          (each-moved (λ (x : Candidate). ⊥) (ranking_permutes js) (subst (Each (λ (x : Candidate). ⊥)) (sym e) tt)) m)
      go (d ∷ rest) e =
          let (n, u) = first-top d rest e in
          (rest, e ∙ ap (λ x. x ∷ rest) (neither_better d c (each_member (λ x. better x c ≡ false) t n) (each_member (λ x. better x d ≡ false) u m)))

-- ---- the eligible models of a list are its eligible records

module _ (costs : Cost) (p : PolicySnapshot) (q : KernelInput) where
  eligible-in : (k : Listed) {ls : List Listed} → List-as-Memᴰ k ls → Eligible costs p q k.model
      → List-as-Memᴰ (candidate_of (judge_by costs p q k)) (eligibles (judged_by costs p q ls))
  unfolding equal
  eligible-in k (List·Memᴰ·head {x = l} {xs = ls} e) h =
      rw (eq-eqb (judge_by costs p q l).verdict.kind 4 (rw e at h)) (List·Memᴰ·head (ap (λ i. candidate_of (judge_by costs p q i)) e))
  eligible-in k (List·Memᴰ·tail {x = l} {xs = ls} m) h = go (eqb (judge_by costs p q l).verdict.kind 4) (eligible-in k m h)
    where
      go : (t : Bool) → List-as-Memᴰ (candidate_of (judge_by costs p q k)) (eligibles (judged_by costs p q ls))
          → List-as-Memᴰ (candidate_of (judge_by costs p q k))
          (cond t (candidate_of (judge_by costs p q l) ∷ eligibles (judged_by costs p q ls)) (eligibles (judged_by costs p q ls)))
      go true r = List·Memᴰ·tail r
      go false r = r

  -- a candidate comes from an eligible record
  record From (ls : List Listed) (c : Candidate) : Type 0 where
    source : Listed
    member : List-as-Memᴰ source ls
    eligible : Eligible costs p q source.model
    same : c ≡ candidate_of (judge_by costs p q source)

  later : (l : Listed) {ls : List Listed} {c : Candidate} → From ls c → From (l ∷ ls) c
  later l f = record { source = f.source; member = List·Memᴰ·tail f.member; eligible = f.eligible; same = f.same }

  eligible-from : (ls : List Listed) (c : Candidate) → List-as-Memᴰ c (eligibles (judged_by costs p q ls)) → From ls c
  unfolding equal
  eligible-from [] c m = absurd (List·Memᴰ·not-nil m)
  eligible-from (l ∷ ls) c m = go (λ n. eligible-from ls c n) (eqb (judge_by costs p q l).verdict.kind 4) refl m
    where
      go : (List-as-Memᴰ c (eligibles (judged_by costs p q ls)) → From ls c) → (t : Bool) → eqb (judge_by costs p q l).verdict.kind 4 ≡ t
          → List-as-Memᴰ c (cond t (candidate_of (judge_by costs p q l) ∷ eligibles (judged_by costs p q ls)) (eligibles (judged_by costs p q ls))) → From (l ∷ ls) c
      go ih true e m =
          ⊎_elim
          (λ (s : c ≡ candidate_of (judge_by costs p q l)). record { source = l; member = List·Memᴰ·head refl; eligible = eqb-true _ _ e; same = s })
          (λ n. later l (ih n))
          (List·Memᴰ·cases-cons m)
      go ih false e m = later l (ih m)

  module _ (ls : List Listed) where
    -- the first of the ranking is the chosen record's, and the other way about
    pub chosen-first : (l : Listed) → Chosen costs p q ls l
        → (rest : List Candidate) × (ranking (judged_by costs p q ls) ≡ candidate_of (judge_by costs p q l) ∷ rest)
    chosen-first l h =
        top-first (judged_by costs p q ls) (candidate_of (judge_by costs p q l)) (eligible-in l h.member h.eligible)
        (each_of _ (eligibles (judged_by costs p q ls)) (λ c m. let f = eligible-from ls c m in rw f.same (h.first f.source f.member f.eligible)))

    pub first-chosen : (c : Candidate) (rest : List Candidate) → ranking (judged_by costs p q ls) ≡ c ∷ rest
        → (l : Listed) × Chosen costs p q ls l × (c ≡ candidate_of (judge_by costs p q l))
    first-chosen c rest e =
        let (m, t) = first-top (judged_by costs p q ls) c rest e in
        let f = eligible-from ls c m in (
          f.source,
          record {
            member = f.member;
            eligible = f.eligible;
            first = λ k n h. rw f.same at (each_member (λ x. better x c ≡ false) t (eligible-in k n h));
          },
          f.same,
        )
