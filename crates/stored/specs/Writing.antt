-- What refuses a bank that is to be written.
use Rattle.std.specs.Prelude.{ℕ, ◌+◌, ◌++◌, ltb}
use Rattle.rules.specs.Limits.{field_header_bytes, policy_bytes, max_stored_models}
use Rattle.rules.specs.Choice.{equal}
use Rattle.rules.specs.Records.{records_in}
use Rattle.rules.specs.declared.records.Rounding.{Rounding}
use Rattle.rules.specs.declared.records.Rounding.TheVariants.{Apart, Once}
use Rattle.rules.specs.Refused.{Faults, fault, refuse_if, length_faults, room_faults}

-- How many bytes tell in a stored form that its policy rounds so: none, or tag 4's header and body
abbrev pub rounding_size : Rounding → ℕ
rounding_size Apart = 0
rounding_size Once = field_header_bytes + 1

-- and its allowance: none, or tag 5's
abbrev pub allowance_size : ℕ → ℕ
allowance_size allowance = equal allowance 0 0 (field_header_bytes + 4)

-- How many bytes a stored form has: tag 1, tag 2 with a bank of so many bytes, how its policy rounds, its allowance
abbrev pub form_size : Rounding → ℕ → ℕ → ℕ
form_size rounding allowance n =
    field_header_bytes + policy_bytes + (field_header_bytes + n) + rounding_size rounding + allowance_size allowance

-- A bank of so many bytes, written into so much room, under a policy that rounds so and has this allowance: 1, 2, 18, 4
unfoldable pub writing_faults : Rounding → ℕ → ℕ → ℕ → Faults
writing_faults rounding allowance n room =
    length_faults n ++ refuse_if (ltb max_stored_models (records_in n)) (fault 18) ++ room_faults (form_size rounding allowance n) room
