-- Selection is monotone, by any rule of cost: where a record is selected, a stand-in that does as well is selected in its place. Assumes nothing.
use Rattle.rules.proofs.Kit.{ℕ, ◌≡◌, refl, subst, ◌∙◌, Bool, true, false, ◌⊎◌, inl, inr, ⊎_elim, List, ◌∷◌, ◌++◌, List-as-Memᴰ, List·Memᴰ·head, List·Memᴰ·tail}
use Rattle.rules.proofs.Kit.{List·Memᴰ·cases-cons, List·Memᴰ·append-cases, Memᴰ·append-left, Memᴰ·append-right}
use Rattle.rules.specs.{Records.Listed, Records.listed, Price.Cost, Verdict.judge_by, Rank.Candidate, Rank.candidate_of, Rank.better, Decide.decision_by}
use Rattle.rules.specs.{Levers.selects, declared.records.KernelModel.KernelModel, declared.records.KernelInput.KernelInput}
use Rattle.rules.specs.{declared.records.PolicySnapshot.PolicySnapshot}
use Rattle.rules.proofs.Better.{better_not_itself, neither_better, none_above}
use Rattle.demands.specs.Standing.{Eligible, AsGood, Chosen, Lacks}
use Rattle.demands.proofs.{Lists.each_member, Selected.selected-chosen, Selected.chosen-selected}

-- what does not rank before x does not rank before one that x does not rank before
still_after : (z x y : Candidate) → better z x ≡ false → better x y ≡ false → better z y ≡ false
still_after z x y a b = go (better y x) refl
  where
    go : (t : Bool) → better y x ≡ t → better z y ≡ false
    go true e = none_above y x z e a
    go false e = subst (λ c. better z c ≡ false) (neither_better x y b e) a

-- a record of a list with a stand-in is the stand-in, or one of the others
among : (before after : List Listed) (l k : Listed) → List-as-Memᴰ k (before ++ l ∷ after) → (k ≡ l) ⊎ (List-as-Memᴰ k before ⊎ List-as-Memᴰ k after)
among before after l k m = ⊎_elim (λ b. inr (inl b)) (λ r. ⊎_elim (λ e. inl e) (λ a. inr (inr a)) (List·Memᴰ·cases-cons r)) (List·Memᴰ·append-cases before m)

other : (before after : List Listed) (l k : Listed) → List-as-Memᴰ k before ⊎ List-as-Memᴰ k after → List-as-Memᴰ k (before ++ l ∷ after)
other before after l k (inl m) = Memᴰ·append-left (l ∷ after) m
other before after l k (inr m) = Memᴰ·append-right before (List·Memᴰ·tail m)

module _ (costs : Cost) (p : PolicySnapshot) (q : KernelInput) (before after : List Listed) (place : ℕ) (x y : KernelModel)
    (good : AsGood costs p q y x) where
  abbrev with-x : List Listed
  with-x = before ++ listed place x ∷ after

  abbrev with-y : List Listed
  with-y = before ++ listed place y ∷ after

  -- where x is chosen, y is
  chosen-monotone : Chosen costs p q with-x (listed place x) → Chosen costs p q with-y (listed place y)
  chosen-monotone h =
      record {
        member = Memᴰ·append-right before (List·Memᴰ·head refl);
        eligible = good.eligible h.eligible;
        first = λ k m e. go k e (among before after (listed place y) k m);
      }
    where
      go : (k : Listed) → Eligible costs p q k.model → (k ≡ listed place y) ⊎ (List-as-Memᴰ k before ⊎ List-as-Memᴰ k after)
          → better (candidate_of (judge_by costs p q k)) (candidate_of (judge_by costs p q (listed place y))) ≡ false
      go k e (inl s) = rw s (better_not_itself (candidate_of (judge_by costs p q (listed place y))))
      go k e (inr m) =
          still_after (candidate_of (judge_by costs p q k)) (candidate_of (judge_by costs p q (listed place x))) (candidate_of (judge_by costs p q (listed place y)))
          (h.first k (other before after (listed place x) k m) e)
          (good.not_after h.eligible place)

  -- Demand 3. SELECTION IS MONOTONE, for any stand-in: where no other record has the id, and the id is selected with x in a place, it is
  -- selected with any y there that does as well
  pub selection-monotone : (id : ℕ) → x.model_id ≡ id → Lacks id before → Lacks id after → selects id (decision_by costs p q with-x) ≡ true
      → selects id (decision_by costs p q with-y) ≡ true
  selection-monotone id same b a e =
      let (z, l, h, i) = selected-chosen costs p q with-x id e in
      subst (λ i. selects i (decision_by costs p q with-y) ≡ true) (good.id ∙ same)
      (chosen-selected costs p q with-y (listed place y) z
      (chosen-monotone (subst (Chosen costs p q with-x) (it l i (among before after (listed place x) l h.member)) h)))
    where
      it : (l : Listed) → l.model.model_id ≡ id → (l ≡ listed place x) ⊎ (List-as-Memᴰ l before ⊎ List-as-Memᴰ l after) → l ≡ listed place x
      it l i (inl s) = s
      it l i (inr (inl m)) = absurd (each_member (λ k. k.model.model_id ≡ id → ⊥) b m i)
      it l i (inr (inr m)) = absurd (each_member (λ k. k.model.model_id ≡ id → ⊥) a m i)
