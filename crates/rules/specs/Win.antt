-- Document 01, "Boundaries": what would win.
use Rattle.std.specs.Prelude.{ℕ, Bool, true, false, List, [], ◌∷◌, eqb}
use Rattle.std.proofs.Math.Option.{Option, none, some}
use Rattle.rules.specs.Limits.{max_bps, ppm}
use Rattle.rules.specs.Choice.{pick}
use Rattle.rules.specs.Records.{Listed}
use Rattle.rules.specs.Refused.{fault, unless}
use Rattle.rules.specs.Numbers.{Decision, Boundary}
use Rattle.rules.specs.Price.{Cost, cost_under}
use Rattle.rules.specs.Decide.{stopped_by, decision_by}
use Rattle.rules.specs.Listing.{Reading, every_record, first_listed}
use Rattle.rules.specs.Halving.{Lowest, Highest, search_of}
use Rattle.rules.specs.Levers.{Question, wins, selects, Sought, entry, plain, priced, and_then, no_search, boundary_of, boundary_refused}
use Rattle.rules.specs.declared.records.KernelInput.{KernelInput}
use Rattle.rules.specs.declared.records.PolicySnapshot.{PolicySnapshot}

-- W4 to W7, W10. Four levers: quality, lowest from today to 10,000; latency, highest from 0 to today; price scale, highest from 0 to 1,000,000;
-- ceiling, lowest from today to 10,000
unfoldable pub win_levers : Question → Sought
win_levers a =
    and_then (plain 1 a.model.quality_bps (search_of Lowest (wins a 1) a.model.quality_bps max_bps))
    (and_then (plain 2 a.model.p95_latency_ms (search_of Highest (wins a 2) 0 a.model.p95_latency_ms))
    (and_then (priced a (search_of Highest (wins a 3) 0 ppm))
    (plain 4 a.model.risk_ceiling_bps (search_of Lowest (wins a 4) a.model.risk_ceiling_bps max_bps))))

-- W3, P6. A model that is off: only enabled = 1 is tried, and listed, 0 to 1, if that selects it
abbrev pub if_on : Bool → Sought
if_on true = record { entries = entry 5 0 1 none ∷ []; passes = 1 }
if_on false = record { entries = []; passes = 1 }

unfoldable pub win_search : Question → Sought
win_search a = pick (eqb a.model.enabled 0) (λ _. if_on (wins a 5 1)) (λ _. win_levers a)

-- W1, W2. An empty list where the request is stopped or the id is selected already; else the search
unfoldable pub win_for : Question → Decision → Boundary
win_for a d =
    pick (eqb (stopped_by a.policy a.request) 0)
    (λ _. pick (selects a.id d) (λ _. boundary_of a.id d false no_search) (λ _. boundary_of a.id d false (win_search a)))
    (λ _. boundary_of a.id d true no_search)

-- N5. By any rule of cost. An id that isn't listed is refused, whatever stops the request
abbrev pub win_if_listed : Cost → PolicySnapshot → KernelInput → List Listed → ℕ → Option Listed → Boundary
win_if_listed costs p q ls id none = boundary_refused (fault 5)
win_if_listed costs p q ls id (some l) =
    win_for (record { costs = costs; policy = p; request = q; list = ls; id = id; model = l.model }) (decision_by costs p q ls)

unfoldable pub win_by : Cost → PolicySnapshot → KernelInput → List Listed → ℕ → Boundary
win_by costs p q ls id = win_if_listed costs p q ls id (first_listed id ls)

-- O1. By the policy's
abbrev pub win_in : PolicySnapshot → KernelInput → List Listed → ℕ → Boundary
win_in p q ls id = win_by (cost_under p) p q ls id

-- N23. `what_would_win` over a bank, however it is read, and with every record of it
abbrev pub what_would_win_over : PolicySnapshot → KernelInput → Reading → ℕ → Boundary
what_would_win_over p q b id = unless b.faults boundary_refused (win_in p q b.list id)

unfoldable pub what_would_win_of : PolicySnapshot → KernelInput → List ℕ → ℕ → Boundary
what_would_win_of p q bank id = what_would_win_over p q (every_record bank) id
