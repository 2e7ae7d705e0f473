-- A list with a stand-in for the first listed record with an id; and so, with unique ids, a lever's settings turn once. Assumed for that: the
-- cost doesn't fall where prices rise.
use Rattle.rules.proofs.Kit.{ℕ, ◌≡◌, refl, sym, ap, subst, ◌∙◌, Bool, true, false, cond, List, [], ◌∷◌, ◌++◌, some, Option·some-injective, Option·none-ne-some}
use Rattle.rules.proofs.Kit.{eqb-true, eqb-false, eqb}
use Rattle.rules.specs.{Choice.equal, Records.Listed, Records.listed, Price.Cost, Decide.decision_by, Listing.first_listed, Halving.Side, Levers.lever_at}
use Rattle.rules.specs.{Levers.selects, Levers.varied, Levers.wins, Levers.decision_at, declared.records.KernelModel.KernelModel}
use Rattle.rules.specs.{declared.records.KernelInput.KernelInput, declared.records.PolicySnapshot.PolicySnapshot}
use Rattle.rules.proofs.Sorted.{each-so}
use Rattle.demands.specs.{Exact.Range, Exact.AtOrBetter, Exact.TurnsOnce, Standing.RisesWithPrices, Standing.Favours, Standing.Ordered, Standing.Lacks}
use Rattle.demands.specs.{Standing.UniqueIds, Demand3.question}
use Rattle.demands.proofs.{Lists.pairs-after, Favours.as_good, Monotone.selection-monotone}

-- ---- the first listed record with an id splits the list

pub record Split (id : ℕ) (ls : List Listed) (l : Listed) : Type 0 where
  pub before : List Listed
  pub after : List Listed
  pub whole : ls ≡ before ++ l ∷ after
  pub stand_in : (m : KernelModel) → varied id m ls ≡ before ++ listed l.place m ∷ after
  pub has : l.model.model_id ≡ id
  pub lacks : Lacks id before

pub split : (id : ℕ) (ls : List Listed) (l : Listed) → first_listed id ls ≡ some l → Split id ls l
unfolding first_listed varied equal
split id [] l e = absurd (Option·none-ne-some l e)
split id (k ∷ ks) l e = go (eqb k.model.model_id id) refl (λ f. split id ks l f) e
  where
    go : (t : Bool) → eqb k.model.model_id id ≡ t → (first_listed id ks ≡ some l → Split id ks l) → cond t (some k) (first_listed id ks) ≡ some l
        → Split id (k ∷ ks) l
    go true t ih e =
        let s = Option·some-injective k l e in
        record {
          before = [];
          after = ks;
          whole = ap (λ i. i ∷ ks) s;
          stand_in = λ m. rw t (ap (λ i. listed i.place m ∷ ks) s);
          has = rw (← s) (eqb-true _ _ t);
          lacks = tt;
        }
    go false t ih e =
        let r = ih e in
        record {
          before = k ∷ r.before;
          after = r.after;
          whole = ap (λ i. k ∷ i) r.whole;
          stand_in = λ m. rw t (ap (λ i. k ∷ i) (r.stand_in m));
          has = r.has;
          lacks = (eqb-false _ _ t, r.lacks);
        }

-- with unique ids no record after it has the id either
lacks_after_lem : (id : ℕ) (ls : List Listed) (l : Listed) → UniqueIds ls → (s : Split id ls l) → Lacks id s.after
lacks_after_lem id ls l u s =
    each-so _ _ (λ k n e. n (s.has ∙ sym e)) s.after
    (pairs-after _ s.before l s.after (subst UniqueIds s.whole u))

-- ---- moving a lever

module _ (ls : List Listed) (id : ℕ) (l : Listed) (first : first_listed id ls ≡ some l) where
  -- the list itself is the one with the record's own model
  unvaried : varied id l.model ls ≡ ls
  unvaried = let s = split id ls l first in s.stand_in l.model ∙ sym s.whole

  -- a lever leaves the id
  own-id : (lever v : ℕ) → (lever_at lever v l.model).model_id ≡ id
  unfolding lever_at
  own-id lever v = (split id ls l first).has

module _ (costs : Cost) (rises : RisesWithPrices costs) (p : PolicySnapshot) (q : KernelInput) (ls : List Listed) (id : ℕ) (l : Listed)
    (unique : UniqueIds ls) (first : first_listed id ls ≡ some l) where
  -- Demand 3. With unique ids, where an id is selected with x for its model, it is selected with any y that is nowhere less favourable
  pub varied-monotone : (x y : KernelModel) → x.model_id ≡ id → Favours y x → selects id (decision_by costs p q (varied id x ls)) ≡ true
      → selects id (decision_by costs p q (varied id y ls)) ≡ true
  varied-monotone x y i f e =
      let s = split id ls l first in
      rw (s.stand_in y)
      (selection-monotone costs p q s.before s.after l.place x y (as_good costs rises p q y x f) id i s.lacks (lacks_after_lem id ls l unique s)
      (rw (s.stand_in x) at e))

  -- Demand 3. So a lever whose settings are ordered turns once: where a setting selects the id, every more favourable one does
  pub selects-on : (lever : ℕ) (side : Side) → Ordered lever side → (u v : ℕ) → AtOrBetter side u v → wins (question costs p q ls id l.model) lever u ≡ true
      → wins (question costs p q ls id l.model) lever v ≡ true
  unfolding wins decision_at
  selects-on lever side o u v h e =
      varied-monotone (lever_at lever u l.model) (lever_at lever v l.model) (own-id ls id l first lever u) (o l.model u v h) e

  pub turns-once : (lever : ℕ) (side : Side) → Ordered lever side → (r : Range) → TurnsOnce side (wins (question costs p q ls id l.model) lever) r
  turns-once lever side o r u v _ _ h e = selects-on lever side o u v h e

  -- and where the id is selected as the list stands, it is selected at a setting that is nowhere less favourable
  pub selected-today : selects id (decision_by costs p q ls) ≡ true → (lever v : ℕ) → Favours (lever_at lever v l.model) l.model
      → wins (question costs p q ls id l.model) lever v ≡ true
  unfolding wins decision_at
  selected-today e lever v f = varied-monotone l.model (lever_at lever v l.model) (split id ls l first).has f (rw (unvaried ls id l first) e)
