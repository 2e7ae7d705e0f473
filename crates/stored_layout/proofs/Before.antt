-- WHAT WAS, STAYS: without tag 4, and without tag 5, a form is tested, and its policy read, as before there was one. Assumes nothing.
use Rattle.rules.proofs.Kit.{ℕ, ◌≡◌, refl, ◌∙◌, true, List, ◌∷◌, arith, length, drop_of_length-le}
use Rattle.rules.specs.{Limits.policy_bytes, Limits.rounded_policy_bytes, Bytes.number, Choice.equal, Records.policy_with, Records.policy_of, Stored.tag_of}
use Rattle.rules.specs.{Stored.body_of, Stored.left_out, Stored.form_faults, Stored.rounding_from, Stored.allowance_from, Stored.after_catalogue}
use Rattle.rules.specs.{Stored.after_rounding, Stored.stored_policy, declared.records.Rounding.TheVariants.Apart}
use Rattle.stored_layout.proofs.{Due.left-out-other, Forms.form-left-out}

-- No byte 4 stands after the catalogue; no byte 5 after tag 4, or where that would stand
abbrev pub NoFour : List ℕ → Type 0
NoFour form = tag_of (after_catalogue form) ≡ 4 → ⊥

abbrev pub NoFive : List ℕ → Type 0
NoFive form = tag_of (after_rounding form) ≡ 5 → ⊥

-- WITHOUT TAG 4
module _ (form : List ℕ) (h : NoFour form) where
  pub four-left-out : left_out 4 (after_catalogue form) ≡ true
  four-left-out = left-out-other 4 (after_catalogue form) refl h

  -- the form is tested by its other tags alone, whichever follow
  tested-without-four : (tags : List ℕ) → form_faults (1 ∷ 2 ∷ 4 ∷ tags) form ≡ form_faults (1 ∷ 2 ∷ tags) form
  unfolding form_faults
  tested-without-four tags = rw (form-left-out 4 tags (after_catalogue form) four-left-out)

  -- its policy rounds apart
  rounded-without-four : rounding_from (after_catalogue form) ≡ Apart
  rounded-without-four = rw four-left-out

  pub apart-without-four : (stored_policy form).rounding ≡ Apart
  unfolding policy_with
  apart-without-four = rounded-without-four

-- WITHOUT TAG 5
module _ (form : List ℕ) (h : NoFive form) where
  pub five-left-out : left_out 5 (after_rounding form) ≡ true
  five-left-out = left-out-other 5 (after_rounding form) refl h

  -- the form is tested by its other tags alone, whichever follow
  pub tested-without-five : (tags : List ℕ) → form_faults (1 ∷ 2 ∷ 4 ∷ 5 ∷ tags) form ≡ form_faults (1 ∷ 2 ∷ 4 ∷ tags) form
  unfolding form_faults
  tested-without-five tags = rw (form-left-out 5 tags (after_rounding form) five-left-out)

  -- its policy has no allowance, and else is the one that tags 1 and 4 say
  none-without-five : allowance_from (after_rounding form) ≡ 0
  none-without-five = rw five-left-out

  pub read-without-five : stored_policy form ≡ policy_with (rounding_from (after_catalogue form)) 0 (body_of form)
  read-without-five = rw none-without-five

-- WITHOUT BOTH
module _ (form : List ℕ) (four : NoFour form) (five : NoFive form) where
  -- the form is tested by its other tags alone
  pub tested-without-both : (tags : List ℕ) → form_faults (1 ∷ 2 ∷ 4 ∷ 5 ∷ tags) form ≡ form_faults (1 ∷ 2 ∷ tags) form
  tested-without-both tags = tested-without-five form five tags ∙ tested-without-four form four tags

  -- and its policy is the one that its 30 bytes say
  pub read-without-both : length (body_of form) ≡ policy_bytes → stored_policy form ≡ policy_of (body_of form)
  unfolding policy_of number equal
  read-without-both long =
      rw (
        read-without-five form five,
        rounded-without-four form four,
        drop_of_length-le (body_of form) {i = policy_bytes} (omega arith),
        drop_of_length-le (body_of form) {i = rounded_policy_bytes} (omega arith),
      )
