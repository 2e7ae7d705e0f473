-- WHAT WAS, STAYS: a form without tag 4, or without tag 5, and a policy that rounds apart, or has no allowance, are read and written as before there
-- was one. Assumes nothing.
use Rattle.rules.proofs.Kit.{ℕ, ◌≡◌, ◌∙◌, List, [], ◌∷◌, ◌++◌, append-nil}
use Rattle.rules.specs.{Records.policy_with, Records.policy_of, Records.policy_number_bytes, Stored.field_bytes, Stored.body_of, Stored.form_faults}
use Rattle.rules.specs.{Stored.rounding_field, Stored.stored_form, Stored.stored_tags, Stored.rounding_from, Stored.after_catalogue}
use Rattle.rules.specs.{Stored.stored_policy, declared.records.PolicySnapshot.PolicySnapshot, declared.records.Rounding.TheVariants.Apart}
use Rattle.stored_layout.proofs.{Before.NoFour, Before.NoFive, Before.tested-without-five, Before.tested-without-both, Before.apart-without-four}
use Rattle.stored_layout.proofs.{Before.read-without-five, Before.read-without-both, Lengths.policy_length}
use Rattle.stored.proofs.{Reading.catalog_fields, Optional.no_field}

-- A FORM WITHOUT TAG 5 is tested by tags 1, 2 and 4 alone, and says the policy that tags 1 and 4 say, with no allowance
module _ (form : List ℕ) (h : NoFive form) where
  pub without-tag-five : form_faults stored_tags form ≡ form_faults (1 ∷ 2 ∷ 4 ∷ []) form
  without-tag-five = tested-without-five form h []

  pub read-without-tag-five : stored_policy form ≡ policy_with (rounding_from (after_catalogue form)) 0 (body_of form)
  read-without-tag-five = read-without-five form h

-- WITHOUT TAG 4 too, it is tested by tags 1 and 2 alone, and its policy rounds apart
module _ (form : List ℕ) (h : NoFour form) (g : NoFive form) where
  pub without-tag-four : (form_faults stored_tags form ≡ form_faults (1 ∷ 2 ∷ []) form) × ((stored_policy form).rounding ≡ Apart)
  without-tag-four = (tested-without-both form h g [], apart-without-four form h)

  -- so that it says the policy that its 30 bytes say
  pub read-without-tag-four : form_faults stored_tags form ≡ [] → stored_policy form ≡ policy_of (body_of form)
  read-without-tag-four e = read-without-both form h g (policy_length form (catalog_fields form e).policy)

-- A POLICY WITHOUT AN ALLOWANCE is written as tags 1 and 2, and how it rounds
module _ (p : PolicySnapshot) (bank : List ℕ) (none : p.latency_allowance_ms ≡ 0) where
  pub written-without-tag-five : stored_form p bank ≡ field_bytes 1 (policy_number_bytes p) ++ field_bytes 2 bank ++ rounding_field p.rounding
  unfolding stored_form
  written-without-tag-five = rw (no_field p.latency_allowance_ms none, append-nil (rounding_field p.rounding))

  -- and one that also rounds apart as tags 1 and 2
  pub written-without-tag-four : p.rounding ≡ Apart → stored_form p bank ≡ field_bytes 1 (policy_number_bytes p) ++ field_bytes 2 bank
  unfolding rounding_field
  written-without-tag-four e = written-without-tag-five ∙ rw e (append-nil (field_bytes 1 (policy_number_bytes p) ++ field_bytes 2 bank))
