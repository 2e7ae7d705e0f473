-- WHAT WAS, STAYS: an input without tag 4, and one without tag 5, is tested and read as before there was one. Assumes nothing.
use Rattle.rules.proofs.Kit.{ℕ, ◌≡◌, List, [], ◌∷◌}
use Rattle.rules.specs.{Records.input_of, Records.policy_with, Records.policy_of, Stored.body_of, Stored.after_catalogue, Stored.after_rounding, Stored.form_faults}
use Rattle.rules.specs.{Stored.rounding_from, Stored.stored_policy, Printed.program_tags, Printed.program_request}
use Rattle.rules.specs.declared.records.Rounding.TheVariants.{Apart}
use Rattle.stored_layout.proofs.{Before.NoFour, Before.NoFive, Before.four-left-out, Before.five-left-out, Before.tested-without-five}
use Rattle.stored_layout.proofs.{Before.tested-without-both, Before.apart-without-four, Before.read-without-five, Before.read-without-both}
use Rattle.stored_layout.proofs.Lengths.{policy_length}
use Rattle.program_input.specs.Formed.{Formed}
use Rattle.program_input.proofs.Tests.{fields}

-- WITHOUT TAG 5
module _ (input : List ℕ) (h : NoFive input) where
  -- it is tested by tags 1, 2, 4 and 3 alone, and says the policy that tags 1 and 4 say, with no allowance
  pub without-tag-five : form_faults program_tags input ≡ form_faults (1 ∷ 2 ∷ 4 ∷ 3 ∷ []) input
  without-tag-five = tested-without-five input h (3 ∷ [])

  pub policy-without-tag-five : stored_policy input ≡ policy_with (rounding_from (after_catalogue input)) 0 (body_of input)
  policy-without-tag-five = read-without-five input h

  -- and the request that stands after tag 4, or where that would stand
  pub request-without-tag-five : program_request input ≡ input_of (body_of (after_rounding input))
  request-without-tag-five = rw (five-left-out input h)

-- WITHOUT TAG 4, and without tag 5
module _ (input : List ℕ) (h : NoFour input) (g : NoFive input) where
  -- it is tested by tags 1, 2 and 3 alone, and its policy rounds apart
  pub without-tag-four : (form_faults program_tags input ≡ form_faults (1 ∷ 2 ∷ 3 ∷ []) input) × ((stored_policy input).rounding ≡ Apart)
  without-tag-four = (tested-without-both input h g (3 ∷ []), apart-without-four input h)

  -- so that it says the policy that its 30 bytes say, and the request that stands after its catalogue
  pub policy-without-tag-four : Formed input → stored_policy input ≡ policy_of (body_of input)
  policy-without-tag-four e = read-without-both input h g (policy_length input (fields input e).policy)

  pub request-without-tag-four : program_request input ≡ input_of (body_of (after_catalogue input))
  request-without-tag-four = rw (five-left-out input g, four-left-out input h)
