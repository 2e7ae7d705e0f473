-- The two costs that a policy can name, written out: document 01's, where input and output are each rounded up, and the one that rounds once.
use Rattle.std.specs.Prelude.{ℕ, min, ◌+◌, ◌-◌, ◌*◌, ◌/◌, ◌^◌}
use Rattle.rules.specs.Price.{Cost}
use Rattle.rules.specs.declared.records.KernelModel.{KernelModel}
use Rattle.rules.specs.declared.records.KernelInput.{KernelInput}

-- Tokens times the price of a million of them
abbrev pub input_product : KernelModel → KernelInput → ℕ
input_product m q = q.input_tokens * m.input_cost_microunits_per_million_tokens

abbrev pub output_product : KernelModel → KernelInput → ℕ
output_product m q = q.output_tokens * m.output_cost_microunits_per_million_tokens

-- By the million, rounded up to whole microunits
abbrev pub rounded_up : ℕ → ℕ
rounded_up n = (n + 999999) / 1000000

-- Document 01's: each rounded up, then added, at most 2 ^ 64 - 1
unfoldable pub apart_cost : Cost
apart_cost m q = min (2 ^ 64 - 1) (rounded_up (input_product m q) + rounded_up (output_product m q))

-- Added, then the sum rounded up, at most 2 ^ 64 - 1
unfoldable pub once_cost : Cost
once_cost m q = min (2 ^ 64 - 1) (rounded_up (input_product m q + output_product m q))
