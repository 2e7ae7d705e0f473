-- Document 01, "Deciding": the eight gates in their order, and what each measured.
use Rattle.std.specs.Prelude.{ℕ, suc, ◌/◌, ◌%◌, ◌^◌, Bool, cond, not, ◌&&◌, List, [], ◌∷◌, eqb, ltb}
use Rattle.std.specs.Int.Bits.{bit_and}
use Rattle.rules.specs.Limits.{max_provider_id, all_ones}
use Rattle.rules.specs.Choice.{equal}
use Rattle.rules.specs.declared.records.KernelModel.{KernelModel}
use Rattle.rules.specs.declared.records.KernelInput.{KernelInput}
use Rattle.rules.specs.declared.verdict.GateDetail.{GateDetail}

-- D4. Gate 1: enabled is 0
abbrev pub is_off : KernelModel → KernelInput → Bool
is_off m q = eqb m.enabled 0

-- D5. Gate 2: the quality is below the minimum
abbrev pub is_poor : KernelModel → KernelInput → Bool
is_poor m q = ltb m.quality_bps q.minimum_quality_bps

-- D6, F1. Gate 3: the request's latency is above 0, and the model's, with what is free of it, is above it
abbrev pub is_slow : KernelModel → KernelInput → Bool
is_slow m q = ltb 0 q.max_p95_latency_ms && ltb q.max_p95_latency_ms m.p95_latency_ms

-- D7. Gate 4: a required capability bit is missing
abbrev pub is_unable : KernelModel → KernelInput → Bool
is_unable m q = not (eqb (bit_and m.capabilities q.required_capabilities) q.required_capabilities)

-- D8. Gate 5: the provider is above 63, whatever the mask
abbrev pub is_unknown : KernelModel → KernelInput → Bool
is_unknown m q = ltb max_provider_id m.provider_id

-- D9. Gate 6: the mask is not all ones, and the provider's bit in it is clear
abbrev pub is_barred : KernelModel → KernelInput → Bool
is_barred m q = not (eqb q.allowed_provider_mask all_ones) && eqb (q.allowed_provider_mask / 2 ^ m.provider_id % 2) 0

-- D10. Gate 7: the required region is not 0, and no bit is common; all ones has no branch of its own
abbrev pub is_elsewhere : KernelModel → KernelInput → Bool
is_elsewhere m q = not (eqb q.required_region_mask 0) && eqb (bit_and m.region_mask q.required_region_mask) 0

-- D11. Gate 8: the risk is above the ceiling
abbrev pub is_risky : KernelModel → KernelInput → Bool
is_risky m q = ltb m.risk_ceiling_bps q.risk_bps

-- D3. The number of the first test that holds, counted from the given one; 0 where none does
abbrev pub first_of : ℕ → List Bool → ℕ
first_of n [] = 0
first_of n (b ∷ bs) = cond b n (first_of (suc n) bs)

-- D3. The first gate that a model fails; 0 where it passes all
unfoldable pub gate_of : KernelModel → KernelInput → ℕ
gate_of m q = first_of 1 (is_off m q ∷ is_poor m q ∷ is_slow m q ∷ is_unable m q ∷ is_unknown m q ∷ is_barred m q ∷ is_elsewhere m q ∷ is_risky m q ∷ [])

abbrev pub detail : ℕ → ℕ → GateDetail
detail measured limit = record { measured = measured; limit = limit }

-- D12, F1. What a failed gate measured, and its limit. Gate 1 compares nothing and tells 0 and 1; gate 8 is turned round, since the request
-- carries the risk and the model the ceiling
unfoldable pub detail_of : KernelModel → KernelInput → ℕ → GateDetail
detail_of m q gate =
    equal gate 1 (detail 0 1)
    (equal gate 2 (detail m.quality_bps q.minimum_quality_bps)
    (equal gate 3 (detail m.p95_latency_ms q.max_p95_latency_ms)
    (equal gate 4 (detail m.capabilities q.required_capabilities)
    (equal gate 5 (detail m.provider_id max_provider_id)
    (equal gate 6 (detail m.provider_id q.allowed_provider_mask)
    (equal gate 7 (detail m.region_mask q.required_region_mask)
    (equal gate 8 (detail q.risk_bps m.risk_ceiling_bps) (detail 0 0))))))))
