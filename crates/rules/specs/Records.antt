-- Document 01, "Bytes": a model, a request and a policy in bytes, and a bank as a list of models with their places.
use Rattle.std.specs.Prelude.{ℕ, zero, suc, ◌*◌, ◌/◌, List, [], ◌∷◌, ◌++◌, length, take, drop}
use Rattle.std.specs.Int.{w64}
use Rattle.std.proofs.Common.{to_z, of_z}
use Rattle.rules.specs.Limits.{record_bytes, policy_bytes, rounded_policy_bytes}
use Rattle.rules.specs.Choice.{equal}
use Rattle.rules.specs.Bytes.{number_at, packed}
use Rattle.rules.specs.declared.records.KernelModel.{KernelModel}
use Rattle.rules.specs.declared.records.KernelInput.{KernelInput}
use Rattle.rules.specs.declared.records.PolicySnapshot.{PolicySnapshot}
use Rattle.rules.specs.declared.records.Rounding.{Rounding}
use Rattle.rules.specs.declared.records.Rounding.TheVariants.{Apart, Once}

-- B3. The model that 47 bytes say: each field by its offset and width
unfoldable pub model_of : List ℕ → KernelModel
model_of s = record {
  model_id = number_at s 0 4;
  provider_id = number_at s 4 2;
  quality_bps = number_at s 6 2;
  risk_ceiling_bps = number_at s 8 2;
  enabled = number_at s 10 1;
  p95_latency_ms = number_at s 11 4;
  capabilities = number_at s 15 8;
  region_mask = number_at s 23 8;
  input_cost_microunits_per_million_tokens = number_at s 31 8;
  output_cost_microunits_per_million_tokens = number_at s 39 8;
}

-- B3. A model's fields, each beside its width, and the bytes that say them
abbrev pub model_fields : KernelModel → List (ℕ × ℕ)
model_fields m =
    (4, m.model_id)
    ∷ (2, m.provider_id)
    ∷ (2, m.quality_bps)
    ∷ (2, m.risk_ceiling_bps)
    ∷ (1, m.enabled)
    ∷ (4, m.p95_latency_ms)
    ∷ (8, m.capabilities)
    ∷ (8, m.region_mask)
    ∷ (8, m.input_cost_microunits_per_million_tokens)
    ∷ (8, m.output_cost_microunits_per_million_tokens)
    ∷ []

abbrev pub model_bytes : KernelModel → List ℕ
model_bytes m = packed (model_fields m)

-- B12. The request that 70 bytes say, in the order of the struct. B2. The value is signed: `to_z w64` reads 64 bits in two's complement
unfoldable pub input_of : List ℕ → KernelInput
input_of s = record {
  request_sequence = number_at s 0 8;
  requested_model_id = number_at s 8 4;
  input_tokens = number_at s 12 4;
  output_tokens = number_at s 16 4;
  business_value_microunits = to_z w64 (number_at s 20 8);
  budget_limit_microunits = number_at s 28 8;
  risk_bps = number_at s 36 2;
  confidence_bps = number_at s 38 2;
  minimum_quality_bps = number_at s 40 2;
  max_p95_latency_ms = number_at s 42 4;
  required_capabilities = number_at s 46 8;
  allowed_provider_mask = number_at s 54 8;
  required_region_mask = number_at s 62 8;
}

-- B12. A request's fields, each beside its width, and the bytes that say them. B2. `of_z w64` gives the 64 bits of the value
abbrev pub input_fields : KernelInput → List (ℕ × ℕ)
input_fields q =
    (8, q.request_sequence)
    ∷ (4, q.requested_model_id)
    ∷ (4, q.input_tokens)
    ∷ (4, q.output_tokens)
    ∷ (8, of_z w64 q.business_value_microunits)
    ∷ (8, q.budget_limit_microunits)
    ∷ (2, q.risk_bps)
    ∷ (2, q.confidence_bps)
    ∷ (2, q.minimum_quality_bps)
    ∷ (4, q.max_p95_latency_ms)
    ∷ (8, q.required_capabilities)
    ∷ (8, q.allowed_provider_mask)
    ∷ (8, q.required_region_mask)
    ∷ []

abbrev pub input_bytes : KernelInput → List ℕ
input_bytes q = packed (input_fields q)

-- O2. How a policy rounds, as a number: 0 apart, 1 once. Where a number is read, any other was refused before
abbrev pub rounding_no : Rounding → ℕ
rounding_no Apart = 0
rounding_no Once = 1

abbrev pub rounding_of : ℕ → Rounding
rounding_of n = equal n 1 Once Apart

-- B10. The policy whose six numbers 30 bytes say, that rounds so and has this allowance
unfoldable pub policy_with : Rounding → ℕ → List ℕ → PolicySnapshot
policy_with r allowance s = record {
  policy_epoch = number_at s 0 8;
  catalog_epoch = number_at s 8 8;
  hard_risk_limit_bps = number_at s 16 2;
  minimum_confidence_bps = number_at s 18 2;
  risk_penalty_multiplier_bps = number_at s 20 2;
  latency_penalty_microunits_per_ms = number_at s 22 8;
  rounding = r;
  latency_allowance_ms = allowance;
}

-- O2, F2. The policy that 30 bytes say, which rounds apart and has no allowance: a byte that isn't there reads as 0. Or 31, of which the last says how
-- it rounds. Or 35, of which the last four say the allowance
unfoldable pub policy_of : List ℕ → PolicySnapshot
policy_of s = policy_with (rounding_of (number_at s policy_bytes 1)) (number_at s rounded_policy_bytes 4) s

-- B10. A policy's numbers, each beside its width, and the bytes that say them
abbrev pub policy_numbers : PolicySnapshot → List (ℕ × ℕ)
policy_numbers p =
    (8, p.policy_epoch)
    ∷ (8, p.catalog_epoch)
    ∷ (2, p.hard_risk_limit_bps)
    ∷ (2, p.minimum_confidence_bps)
    ∷ (2, p.risk_penalty_multiplier_bps)
    ∷ (8, p.latency_penalty_microunits_per_ms)
    ∷ []

abbrev pub policy_number_bytes : PolicySnapshot → List ℕ
policy_number_bytes p = packed (policy_numbers p)

-- O2, F2. The same with how it rounds and its allowance: the longest form, in which a policy is handed back
abbrev pub policy_fields : PolicySnapshot → List (ℕ × ℕ)
policy_fields p = policy_numbers p ++ (1, rounding_no p.rounding) ∷ (4, p.latency_allowance_ms) ∷ []

abbrev pub policy_in_bytes : PolicySnapshot → List ℕ
policy_in_bytes p = packed (policy_fields p)

-- B4. How many records so many bytes hold; of a bank, the bytes of the record at a place, and the model that they say
abbrev pub records_in : ℕ → ℕ
records_in n = n / record_bytes

abbrev pub record_part : List ℕ → ℕ → List ℕ
record_part bank place = take record_bytes (drop (record_bytes * place) bank)

abbrev pub model_at : List ℕ → ℕ → KernelModel
model_at bank place = model_of (record_part bank place)

-- A listed record: a model with its place. Decisions are over any list of them
pub record Listed : Type 0 where
  pub place : ℕ
  pub model : KernelModel

abbrev pub listed : ℕ → KernelModel → Listed
listed place m = record { place = place; model = m }

-- B4. A bank as such a list: so many records, from a place on, and all of them
abbrev pub listed_from : List ℕ → ℕ → ℕ → List Listed
listed_from bank place zero = []
listed_from bank place (suc n) = listed place (model_at bank place) ∷ listed_from bank (suc place) n

unfoldable pub listed_of : List ℕ → List Listed
listed_of bank = listed_from bank 0 (records_in (length bank))
