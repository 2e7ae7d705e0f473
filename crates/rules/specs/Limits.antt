-- Sizes and limits, each named once.
use Rattle.std.specs.Prelude.{ℕ, ◌-◌, ◌^◌}

-- bytes of a record in a bank, of a request, of a policy's six numbers, of a policy that also says how it rounds, of one that says its allowance
-- too, and of an explanation record
abbrev pub record_bytes : ℕ
record_bytes = 47

abbrev pub request_bytes : ℕ
request_bytes = 70

abbrev pub policy_bytes : ℕ
policy_bytes = 30

abbrev pub rounded_policy_bytes : ℕ
rounded_policy_bytes = 31

abbrev pub longest_policy_bytes : ℕ
longest_policy_bytes = 35

abbrev pub explanation_bytes : ℕ
explanation_bytes = 72

-- the most records that a bank may have, and the place that a rejection carries
abbrev pub max_catalog_models : ℕ
max_catalog_models = 65535

abbrev pub no_place : ℕ
no_place = 65535

-- the largest numbers of u32, u64 and i64
abbrev pub max_u32 : ℕ
max_u32 = 2 ^ 32 - 1

abbrev pub max_u64 : ℕ
max_u64 = 2 ^ 64 - 1

abbrev pub max_i64 : ℕ
max_i64 = 2 ^ 63 - 1

-- all 64 bits of a mask, and the highest provider that has a bit in it
abbrev pub all_ones : ℕ
all_ones = 2 ^ 64 - 1

abbrev pub max_provider_id : ℕ
max_provider_id = 63

-- the highest basis points and the highest risk multiplier that are not refused
abbrev pub max_bps : ℕ
max_bps = 10000

abbrev pub max_risk_multiplier : ℕ
max_risk_multiplier = 50000

-- the divisor of a product with two numbers of basis points
abbrev pub scaled_basis_points : ℕ
scaled_basis_points = 100000000

-- tokens that a price is for; a scale of one, and the highest that a margin tries
abbrev pub cost_scale : ℕ
cost_scale = 1000000

abbrev pub ppm : ℕ
ppm = 1000000

abbrev pub max_price_scale : ℕ
max_price_scale = 1000000000

-- a stored field's tag and length; a model's and a request's bytes in a field; the most models of a stored form and of the program
abbrev pub field_header_bytes : ℕ
field_header_bytes = 3

abbrev pub stored_record_bytes : ℕ
stored_record_bytes = 47

abbrev pub stored_request_bytes : ℕ
stored_request_bytes = 70

abbrev pub max_stored_models : ℕ
max_stored_models = 1394

-- the bytes of a field with that many
abbrev pub full_field_bytes : ℕ
full_field_bytes = 65518

abbrev pub max_program_models : ℕ
max_program_models = 900
