-- What a decision selects, by any rule of cost: the id of the record that is chosen. A rejection selects none. Assumes nothing.
use Rattle.rules.proofs.Kit.{ℕ, ◌≡◌, refl, sym, ap, ◌∙◌, Bool, true, false, cond, not, ◌&&◌, false≢true, List, [], ◌∷◌, eqb-true, eq-eqb, eqb}
use Rattle.rules.specs.{Choice.equal, Records.Listed, Numbers.Decision, Numbers.is_rejection, Price.Cost, Verdict.judge_by, Verdict.judged_by, Rank.Candidate}
use Rattle.rules.specs.{Rank.candidate_of, Rank.ranking, Decide.stopped_by, Decide.rejection, Decide.executed_as, Decide.chosen, Decide.decision_by}
use Rattle.rules.specs.{Levers.selects}
use Rattle.rules.specs.{declared.records.KernelInput.KernelInput, declared.records.PolicySnapshot.PolicySnapshot}
use Rattle.rules.proofs.Stopped.{not_stopped}
use Rattle.demands.specs.Standing.{Chosen}
use Rattle.demands.proofs.{Decision.chosen_is, Decision.decided-by-first-two, Decision.rejected-where-none, Firsts.chosen-first, Firsts.first-chosen}

-- ---- what a decision selects

-- Demand 3. A REJECTION SELECTS NO ID, 0 included
pub rejection-selects_none : (id : ℕ) (d : Decision) → is_rejection d ≡ true → selects id d ≡ false
unfolding selects
rejection-selects_none id d e = rw e

-- and what selects an id is no rejection, and chose it
pub selects_chose : (id : ℕ) (d : Decision) → selects id d ≡ true → (is_rejection d ≡ false) × (d.model ≡ id)
unfolding selects
selects_chose id d e = go (is_rejection d) (eqb d.model id) refl refl e
  where
    go : (s t : Bool) → is_rejection d ≡ s → eqb d.model id ≡ t → (not s && t) ≡ true → (is_rejection d ≡ false) × (d.model ≡ id)
    go true t a b e = absurd (false≢true e)
    go false true a b e = (a, eqb-true _ _ b)
    go false false a b e = absurd (false≢true e)

pub chose_selects : (id : ℕ) (d : Decision) → is_rejection d ≡ false → d.model ≡ id → selects id d ≡ true
unfolding selects
chose_selects id d e f = rw (e, eq-eqb d.model id f)

module _ (p : PolicySnapshot) (q : KernelInput) where
  rejection-is : (reason n : ℕ) → is_rejection (rejection p q reason n) ≡ true
  unfolding rejection
  rejection-is reason n = refl

  chosen-is-none : (n : ℕ) (c : Candidate) (rest : List Candidate) → is_rejection (chosen p q n c rest) ≡ false
  unfolding chosen executed_as equal
  chosen-is-none n c rest = go (eqb c.id q.requested_model_id)
    where
      go : (t : Bool) → eqb (cond t 1 2) 3 ≡ false
      go true = refl
      go false = refl

module _ (costs : Cost) (p : PolicySnapshot) (q : KernelInput) (ls : List Listed) where
  -- a decision that is no rejection is for a chosen record, with its id and place
  pub record For (l : Listed) : Type 0 where
    pub chosen : Chosen costs p q ls l
    pub id : (decision_by costs p q ls).model ≡ l.model.model_id
    pub place : (decision_by costs p q ls).place ≡ l.place

  pub executes : is_rejection (decision_by costs p q ls) ≡ false → (l : Listed) × For l
  executes e = go (ranking (judged_by costs p q ls)) refl
    where
      z : stopped_by p q ≡ 0
      z = not_stopped costs p q ls e

      go : (cs : List Candidate) → ranking (judged_by costs p q ls) ≡ cs → (l : Listed) × For l
      go [] r = absurd (false≢true (sym e ∙ ap is_rejection (rejected-where-none costs p q ls z r) ∙ rejection-is p q _ _))
      go (c ∷ rest) r =
          let (l, h, s) = first-chosen costs p q ls c rest r in
          let d = decided-by-first-two costs p q ls z c rest r in
          (l, record { chosen = h; id = d.model ∙ ap (λ (x : Candidate). x.id) s; place = d.place ∙ ap (λ (x : Candidate). x.place) s })

  -- so what is selected is the id of a chosen record
  pub selected-chosen : (id : ℕ) → selects id (decision_by costs p q ls) ≡ true
      → (stopped_by p q ≡ 0) × (l : Listed) × Chosen costs p q ls l × (l.model.model_id ≡ id)
  selected-chosen id e =
      let (a, b) = selects_chose id (decision_by costs p q ls) e in
      let (l, f) = executes a in
      (not_stopped costs p q ls a, l, f.chosen, sym f.id ∙ b)

  -- and the id of a chosen record is selected
  pub chosen-selected : (l : Listed) → stopped_by p q ≡ 0 → Chosen costs p q ls l → selects l.model.model_id (decision_by costs p q ls) ≡ true
  chosen-selected l z h =
      let (rest, r) = chosen-first costs p q ls l h in
      chose_selects l.model.model_id (decision_by costs p q ls)
      (ap is_rejection (chosen_is costs p q ls z (candidate_of (judge_by costs p q l)) rest r) ∙ chosen-is-none p q _ _ rest)
      (decided-by-first-two costs p q ls z (candidate_of (judge_by costs p q l)) rest r).model
