-- A field at the front of some bytes as the reader answers it.
use Rattle.std.specs.Prelude.{ℕ, ◌+◌, ◌≤◌, ◌≡◌, true, List, length, get_or, Result}
use Rattle.rules.specs.Limits.{field_header_bytes}
use Rattle.rules.specs.Refused.{Answer, refused, answered, unless}
use Rattle.rules.specs.Stored.{fits, body_length, field_faults}
use Rattle.rules.specs.Numbers.{told_number}
use Rattle.rules.specs.declared.refusal.Refusal.{Refusal}

-- What the reader tells: how many bytes the field has, or the number that is handed back
abbrev pub told_field : Result ℕ Refusal → Answer ℕ
told_field r = told_number r

-- How many bytes the field at the front of some bytes has
abbrev pub field_size : List ℕ → ℕ
field_size s = field_header_bytes + body_length s

-- The field with a tag at the front of some bytes
unfoldable pub field_of : ℕ → List ℕ → Answer ℕ
field_of tag s = unless (field_faults tag s) refused (answered (field_size s))

-- A header with the tag stands at the front of some bytes
pub record Headed (tag : ℕ) (s : List ℕ) : Type 0 where
  pub long : field_header_bytes ≤ length s
  pub lead : get_or s 0 0 ≡ tag

-- A whole field stands there, with a length that the tag has
pub record Bodied (tag : ℕ) (s : List ℕ) : Type 0 where
  pub right : fits tag (body_length s) ≡ true
  pub whole : field_size s ≤ length s
