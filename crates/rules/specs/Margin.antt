-- Document 01, "Boundaries": the margin of what was chosen.
use Rattle.std.specs.Prelude.{ℕ, false, List}
use Rattle.std.proofs.Math.Option.{Option, none, some}
use Rattle.rules.specs.Limits.{max_u32, ppm, max_price_scale}
use Rattle.rules.specs.Choice.{pick}
use Rattle.rules.specs.Records.{Listed}
use Rattle.rules.specs.Refused.{fault, unless}
use Rattle.rules.specs.Numbers.{Decision, is_rejection, Boundary}
use Rattle.rules.specs.Price.{Cost, cost_under}
use Rattle.rules.specs.Decide.{decision_by}
use Rattle.rules.specs.Listing.{Reading, every_record, first_listed}
use Rattle.rules.specs.Halving.{Lowest, Highest, search_of, search_after_far_end}
use Rattle.rules.specs.Levers.{Question, wins, Sought, plain, priced, and_then, boundary_of, boundary_refused}
use Rattle.rules.specs.declared.records.KernelInput.{KernelInput}
use Rattle.rules.specs.declared.records.PolicySnapshot.{PolicySnapshot}

-- M1 to M5. Four levers: quality, lowest from 0 to today, searched at once; then, each after its far end, latency, highest from today to
-- 2 ^ 32 - 1; price scale, highest from 1,000,000 to 1,000,000,000; ceiling, lowest from 0 to today
unfoldable pub margin_levers : Question → Sought
margin_levers a =
    and_then (plain 1 a.model.quality_bps (search_of Lowest (wins a 1) 0 a.model.quality_bps))
    (and_then (plain 2 a.model.p95_latency_ms (search_after_far_end Highest (wins a 2) a.model.p95_latency_ms max_u32))
    (and_then (priced a (search_after_far_end Highest (wins a 3) ppm max_price_scale))
    (plain 4 a.model.risk_ceiling_bps (search_after_far_end Lowest (wins a 4) 0 a.model.risk_ceiling_bps))))

-- R1. By any rule of cost. The first listed record with the chosen id is varied; a chosen id is always listed
abbrev pub margin_if_listed : Cost → PolicySnapshot → KernelInput → List Listed → Decision → Option Listed → Boundary
margin_if_listed costs p q ls d none = boundary_refused (fault 6)
margin_if_listed costs p q ls d (some l) =
    boundary_of d.model d false (margin_levers (record { costs = costs; policy = p; request = q; list = ls; id = d.model; model = l.model }))

-- N6. A rejection has no margin
unfoldable pub margin_for : Cost → PolicySnapshot → KernelInput → List Listed → Decision → Boundary
margin_for costs p q ls d = pick (is_rejection d) (λ _. boundary_refused (fault 6)) (λ _. margin_if_listed costs p q ls d (first_listed d.model ls))

unfoldable pub margin_by : Cost → PolicySnapshot → KernelInput → List Listed → Boundary
margin_by costs p q ls = margin_for costs p q ls (decision_by costs p q ls)

-- O1. By the policy's
abbrev pub margin_in : PolicySnapshot → KernelInput → List Listed → Boundary
margin_in p q ls = margin_by (cost_under p) p q ls

-- N23. `decision_margin` over a bank, however it is read, and with every record of it
abbrev pub decision_margin_over : PolicySnapshot → KernelInput → Reading → Boundary
decision_margin_over p q b = unless b.faults boundary_refused (margin_in p q b.list)

unfoldable pub decision_margin_of : PolicySnapshot → KernelInput → List ℕ → Boundary
decision_margin_of p q bank = decision_margin_over p q (every_record bank)
