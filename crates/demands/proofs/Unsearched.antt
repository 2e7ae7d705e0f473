-- DEMAND 3 where no lever is searched: a model that is off, a request that is stopped, an id that is selected; and rejections, which select
-- no id at any setting; by any rule of cost. Assumes nothing: ids may repeat.
use Rattle.rules.proofs.Kit.{ℕ, ◌<◌, ◌≡◌, refl, sym, ap, subst, ◌∙◌, Bool, true, false, false≢true, ◌⊎◌, inl, inr, List, [], some, arith, ne_eqb, length}
use Rattle.rules.specs.{Records.Listed, Records.listed_of, Refused.bank_faults, Numbers.is_rejection, Price.Cost, Price.cost_under, Decide.stopped_by}
use Rattle.rules.specs.{Decide.decision_by, Decide.decision_of, Listing.Reading, Listing.every_record, Listing.first_listed, Levers.Question, Levers.selects}
use Rattle.rules.specs.{Levers.decision_at, Levers.wins, Levers.boundary_of, Win.if_on, Win.win_search, Win.win_for, Win.win_by, Win.what_would_win_over}
use Rattle.rules.specs.{Win.what_would_win_of, declared.records.KernelInput.KernelInput, declared.records.PolicySnapshot.PolicySnapshot, Printed.entries_of}
use Rattle.rules.proofs.Stopped.{stopped-rejects}
use Rattle.demands.specs.Demand3.{question, Unselected, OffExact}
use Rattle.demands.proofs.{Selected.rejection-selects_none, Selected.selects_chose, Selected.selected-chosen, Winning.answered_win}
use Rattle.demands.proofs.{Winning.used-searched, Winning.no-refusal}

-- ---- rejections

-- Demand 3. A rejection selects no id, 0 included, at any setting of any lever
pub rejected_at_setting : (a : Question) (lever v : ℕ) → is_rejection (decision_at a lever v) ≡ true → wins a lever v ≡ false
unfolding wins
rejected_at_setting a lever v e = rejection-selects_none a.id (decision_at a lever v) e

-- Demand 3. A setting that selects the id decides for it, and is no rejection
pub selected_at_setting : (a : Question) (lever v : ℕ) → wins a lever v ≡ true
    → (is_rejection (decision_at a lever v) ≡ false) × ((decision_at a lever v).model ≡ a.id)
unfolding wins
selected_at_setting a lever v e = selects_chose a.id (decision_at a lever v) e

-- Demand 3. Where a limit stops the request, no setting selects any id
pub stopped_at_setting : (a : Question) (lever v : ℕ) → 0 < stopped_by a.policy a.request → wins a lever v ≡ false
unfolding decision_at
stopped_at_setting a lever v h = rejected_at_setting a lever v (stopped-rejects a.costs a.policy a.request _ h)

-- ---- what would win, over any list

module _ (costs : Cost) (p : PolicySnapshot) (q : KernelInput) (ls : List Listed) (id : ℕ) (l : Listed) (first : first_listed id ls ≡ some l) where
  -- Demand 3. Stopped by a request limit: no entry
  pub stopped-empty : 0 < stopped_by p q → entries_of (win_by costs p q ls id) ≡ []
  unfolding win_by win_for boundary_of
  stopped-empty h = rw (first, ne_eqb (stopped_by p q) 0 (λ e. omega arith))

  -- Demand 3. Selected already: no entry
  pub selected-empty : selects id (decision_by costs p q ls) ≡ true → entries_of (win_by costs p q ls id) ≡ []
  unfolding win_by win_for boundary_of
  selected-empty e = let z = (selected-chosen costs p q ls id e).0 in rw (first, z, e)

module _ (costs : Cost) (p : PolicySnapshot) (q : KernelInput) (ls : List Listed) (id : ℕ) (l : Listed) (u : Unselected costs p q ls id l)
    (off : l.model.enabled ≡ 0) where
  off-used : entries_of (win_by costs p q ls id) ≡ (if_on (wins (question costs p q ls id l.model) 5 1)).entries
  unfolding win_search
  off-used = used-searched costs p q ls id l u ∙ rw off

  -- Demand 3. SWITCHED OFF: enabled is listed exactly if switching it on selects the id
  pub off-exact : OffExact (win_by costs p q ls id) (question costs p q ls id l.model)
  off-exact = go (wins (question costs p q ls id l.model) 5 1) refl off-used
    where
      go : (t : Bool) → wins (question costs p q ls id l.model) 5 1 ≡ t → entries_of (win_by costs p q ls id) ≡ (if_on t).entries
          → OffExact (win_by costs p q ls id) (question costs p q ls id l.model)
      go true w k =
          record {
            answered = no-refusal costs p q ls id l u;
            given = (λ s. w, λ s. k);
            missing = (λ s. absurd (omega (arith, ap length (sym k ∙ s))), λ s. absurd (false≢true (sym s ∙ w)));
          }
      go false w k =
          record {
            answered = no-refusal costs p q ls id l u;
            given = (λ s. absurd (omega (arith, ap length (sym k ∙ s))), λ s. absurd (false≢true (sym w ∙ s)));
            missing = (λ s. w, λ s. k);
          }

-- ---- what would win, however a bank is read, and with every record of it

-- Demand 3. STOPPED BY A REQUEST LIMIT, OR SELECTED ALREADY: no entry
pub unsearched_over_empty : (p : PolicySnapshot) (q : KernelInput) (b : Reading) (id : ℕ) (l : Listed) → b.faults ≡ [] → first_listed id b.list ≡ some l
    → (0 < stopped_by p q) ⊎ (selects id (decision_of p q b.list) ≡ true) → entries_of (what_would_win_over p q b id) ≡ []
unsearched_over_empty p q b id l none first (inl h) =
    ap entries_of (answered_win p q b id none) ∙ stopped-empty (cost_under p) p q b.list id l first h
unsearched_over_empty p q b id l none first (inr e) =
    ap entries_of (answered_win p q b id none) ∙ selected-empty (cost_under p) p q b.list id l first e

pub unsearched_empty : (p : PolicySnapshot) (q : KernelInput) (bank : List ℕ) (id : ℕ) (l : Listed) → bank_faults bank ≡ []
    → first_listed id (listed_of bank) ≡ some l
    → (0 < stopped_by p q) ⊎ (selects id (decision_of p q (listed_of bank)) ≡ true)
    → entries_of (what_would_win_of p q bank id) ≡ []
unfolding what_would_win_of
unsearched_empty p q bank id l = unsearched_over_empty p q (every_record bank) id l

-- Demand 3. SWITCHED OFF: enabled is listed exactly if switching it on selects the id
pub off_over_exact : (p : PolicySnapshot) (q : KernelInput) (b : Reading) (id : ℕ) (l : Listed) → b.faults ≡ []
    → Unselected (cost_under p) p q b.list id l → l.model.enabled ≡ 0
    → OffExact (what_would_win_over p q b id) (question (cost_under p) p q b.list id l.model)
off_over_exact p q b id l none u off =
    subst (λ answer. OffExact answer (question (cost_under p) p q b.list id l.model)) (sym (answered_win p q b id none))
    (off-exact (cost_under p) p q b.list id l u off)

pub switched_off_exact : (p : PolicySnapshot) (q : KernelInput) (bank : List ℕ) (id : ℕ) (l : Listed) → bank_faults bank ≡ []
    → Unselected (cost_under p) p q (listed_of bank) id l → l.model.enabled ≡ 0
    → OffExact (what_would_win_of p q bank id) (question (cost_under p) p q (listed_of bank) id l.model)
unfolding what_would_win_of
switched_off_exact p q bank id l = off_over_exact p q (every_record bank) id l
