-- A form that a policy and its bank open, and that passes: its fields, and what stands after them. Assumes nothing.
use Rattle.rules.proofs.Kit.{ℕ, ◌≡◌, refl, List, [], ◌∷◌}
use Rattle.rules.specs.{Stored.after_of, Stored.due_faults, Stored.after_due, Stored.after_catalogue, Stored.after_rounding, Stored.form_faults}
use Rattle.stored_layout.specs.Layout.{Opening}
use Rattle.stored_layout.proofs.{Passing.Passed, Forms.form-passed, Forms.form-due, Lengths.policy_length}

-- Tags 1 and 2 stand there, tags 4 and 5 or not, and after them fields with these tags
pub record Opened (tags form : List ℕ) : Type 0 where
  pub policy : Passed 1 form
  pub bank : Passed 2 (after_of form)
  pub rounding : due_faults 4 (after_catalogue form) ≡ []
  pub allowance : due_faults 5 (after_rounding form) ≡ []
  pub rest : form_faults tags (after_due 5 (after_rounding form)) ≡ []

module _ (tags form : List ℕ) where
  pub opened : form_faults (1 ∷ 2 ∷ 4 ∷ 5 ∷ tags) form ≡ [] → Opened tags form
  opened e =
      let first = form-passed 1 (2 ∷ 4 ∷ 5 ∷ tags) form refl e in
      let second = form-passed 2 (4 ∷ 5 ∷ tags) (after_of form) refl first.1 in
      let third = form-due 4 (5 ∷ tags) (after_catalogue form) second.1 in
      let fourth = form-due 5 tags (after_rounding form) third.1 in
      record { policy = first.0; bank = second.0; rounding = third.0; allowance = fourth.0; rest = fourth.1 }

  -- so that it can be taken apart
  pub opening : Opened tags form → Opening form
  opening o =
      record {
        policy = o.policy.whole;
        numbers = policy_length form o.policy;
        bank = o.bank.whole;
        rounding = o.rounding;
        allowance = o.allowance;
      }
