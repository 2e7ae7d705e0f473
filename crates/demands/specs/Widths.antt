-- The fields that utilities are made of, within the Rust's types: u16, u32, u64 and i64.
use Rattle.std.specs.Prelude.{◌^◌, ◌<◌, ℤ, pos, negsuc}
use Rattle.rules.specs.declared.records.KernelModel.{KernelModel}
use Rattle.rules.specs.declared.records.KernelInput.{KernelInput}
use Rattle.rules.specs.declared.records.PolicySnapshot.{PolicySnapshot}

-- An i64; `negsuc n` is -(n + 1)
abbrev pub InI64 : ℤ → Type 0
InI64 (pos n) = n < 2 ^ 63
InI64 (negsuc n) = n < 2 ^ 63

pub record ModelTyped (m : KernelModel) : Type 0 where
  pub quality : m.quality_bps < 2 ^ 16
  pub latency : m.p95_latency_ms < 2 ^ 32
  pub input_price : m.input_cost_microunits_per_million_tokens < 2 ^ 64
  pub output_price : m.output_cost_microunits_per_million_tokens < 2 ^ 64

pub record RequestTyped (q : KernelInput) : Type 0 where
  pub input_tokens : q.input_tokens < 2 ^ 32
  pub output_tokens : q.output_tokens < 2 ^ 32
  pub value : InI64 q.business_value_microunits
  pub risk : q.risk_bps < 2 ^ 16
  pub confidence : q.confidence_bps < 2 ^ 16

pub record PolicyTyped (p : PolicySnapshot) : Type 0 where
  pub multiplier : p.risk_penalty_multiplier_bps < 2 ^ 16
  pub penalty : p.latency_penalty_microunits_per_ms < 2 ^ 64
