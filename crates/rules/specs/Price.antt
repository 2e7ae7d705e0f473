-- Document 01, "Deciding": what a model costs for a request; and "Boundaries": a scaled price.
use Rattle.std.specs.Prelude.{ℕ, min, ◌+◌, ◌-◌, ◌*◌, ◌/◌}
use Rattle.rules.specs.Limits.{cost_scale, ppm, max_u64}
use Rattle.rules.specs.declared.records.KernelModel.{KernelModel}
use Rattle.rules.specs.declared.records.KernelInput.{KernelInput}
use Rattle.rules.specs.declared.records.PolicySnapshot.{PolicySnapshot}
use Rattle.rules.specs.declared.records.Rounding.{Rounding}
use Rattle.rules.specs.declared.records.Rounding.TheVariants.{Apart, Once}

-- D13. Microunits by the million tokens, rounded up to whole microunits
unfoldable pub billed : ℕ → ℕ
billed exact = (exact + (cost_scale - 1)) / cost_scale

-- D13. Apart: input and output each rounded up, then added. O1. Once: added, then the sum rounded up
unfoldable pub billed_both : Rounding → ℕ → ℕ → ℕ
billed_both Apart input output = billed input + billed output
billed_both Once input output = billed (input + output)

-- D13, O1. Tokens times price in each direction; what both come to is at most 2 ^ 64 - 1
unfoldable pub cost_of : Rounding → KernelModel → KernelInput → ℕ
cost_of r m q =
    min max_u64
    (billed_both r (q.input_tokens * m.input_cost_microunits_per_million_tokens)
    (q.output_tokens * m.output_cost_microunits_per_million_tokens))

-- What a model costs for a request, by whatever rule: decisions and boundaries can be made by any. O1. A policy's own is that of its rounding
abbrev pub Cost : Type 0
Cost = KernelModel → KernelInput → ℕ

abbrev pub cost_under : PolicySnapshot → Cost
cost_under p = cost_of p.rounding

-- W8. A price at a scale in millionths, rounded down, at most 2 ^ 64 - 1
unfoldable pub scaled_price : ℕ → ℕ → ℕ
scaled_price price scale = min max_u64 (price * scale / ppm)
