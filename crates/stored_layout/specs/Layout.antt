-- The field that is due in a form as the reader answers it, and when one can be taken apart.
use Rattle.std.specs.Prelude.{ℕ, ◌≤◌, cond, ◌≡◌, List, [], length}
use Rattle.rules.specs.Limits.{policy_bytes}
use Rattle.rules.specs.Refused.{Answer, refused, answered, unless}
use Rattle.rules.specs.Stored.{body_of, after_of, left_out, due_faults, after_catalogue, after_rounding}
use Rattle.stored_fields.specs.Fields.{field_size}

-- How many bytes the field with a tag has that is due at the front of some bytes; none where it may be left out and is
abbrev pub due_size : ℕ → List ℕ → ℕ
due_size tag s = cond (left_out tag s) 0 (field_size s)

-- That field
unfoldable pub due_of : ℕ → List ℕ → Answer ℕ
due_of tag s = unless (due_faults tag s) refused (answered (due_size tag s))

-- The field at the front of some bytes is not cut
abbrev pub Whole : List ℕ → Type 0
Whole s = field_size s ≤ length s

-- A policy and its bank open the bytes: tags 1 and 2 are not cut, and tags 4 and 5 pass or are left out
pub record Opening (form : List ℕ) : Type 0 where
  pub policy : Whole form
  pub numbers : length (body_of form) ≡ policy_bytes
  pub bank : Whole (after_of form)
  pub rounding : due_faults 4 (after_catalogue form) ≡ []
  pub allowance : due_faults 5 (after_rounding form) ≡ []
