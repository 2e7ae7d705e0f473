-- Document 01, "Boundaries": the levers, what it is to win with one, and the list of those found.
use Rattle.std.specs.Prelude.{ℕ, ◌+◌, ◌-◌, Bool, false, not, ◌&&◌, List, [], ◌∷◌, ◌++◌, map, eqb, length, replicate, option_to_list, Result, Ok, Err}
use Rattle.std.proofs.Math.Option.{Option, none, some}
use Rattle.rules.specs.Limits.{ppm}
use Rattle.rules.specs.Choice.{equal}
use Rattle.rules.specs.Records.{Listed, listed}
use Rattle.rules.specs.Refused.{Fault, no_fault, told_refusal}
use Rattle.rules.specs.Numbers.{Decision, is_rejection, Entry, Boundary, told_boundaries}
use Rattle.rules.specs.Price.{Cost, scaled_price}
use Rattle.rules.specs.Decide.{no_candidate, decision_with, decision_by}
use Rattle.rules.specs.declared.records.KernelModel.{KernelModel}
use Rattle.rules.specs.declared.records.KernelInput.{KernelInput}
use Rattle.rules.specs.declared.records.PolicySnapshot.{PolicySnapshot}
use Rattle.rules.specs.declared.boundary.Bound.{Bound}
use Rattle.rules.specs.declared.boundary.Boundaries.{Boundaries}
use Rattle.rules.specs.declared.refusal.Refusal.{Refusal}

-- W10. A model with the lever of a number at a value: 1 quality (W4), 2 latency (W5, F1), 3 both prices, scaled alike (W6, W8), 4 ceiling (W7),
-- 5 enabled (W3). All else is as it is; a number that is no lever's moves nothing
unfoldable pub lever_at : ℕ → ℕ → KernelModel → KernelModel
lever_at lever v m = record {
  model_id = m.model_id;
  provider_id = m.provider_id;
  quality_bps = equal lever 1 v m.quality_bps;
  risk_ceiling_bps = equal lever 4 v m.risk_ceiling_bps;
  enabled = equal lever 5 v m.enabled;
  p95_latency_ms = equal lever 2 v m.p95_latency_ms;
  capabilities = m.capabilities;
  region_mask = m.region_mask;
  input_cost_microunits_per_million_tokens = equal lever 3 (scaled_price m.input_cost_microunits_per_million_tokens v)
      m.input_cost_microunits_per_million_tokens;
  output_cost_microunits_per_million_tokens = equal lever 3 (scaled_price m.output_cost_microunits_per_million_tokens v)
      m.output_cost_microunits_per_million_tokens;
}

-- W2. A decision selects an id where it is no rejection and chose that id
unfoldable pub selects : ℕ → Decision → Bool
selects id d = not (is_rejection d) && eqb d.model id

-- R1. The list with another model in the first listed record with an id, its place kept
unfoldable pub varied : ℕ → KernelModel → List Listed → List Listed
varied id m [] = []
varied id m (l ∷ ls) = equal l.model.model_id id (listed l.place m ∷ ls) (l ∷ varied id m ls)

-- What the boundary calls ask about: what a model costs, policy, request, list, and the model with the id that is varied
pub record Question : Type 0 where
  pub costs : Cost
  pub policy : PolicySnapshot
  pub request : KernelInput
  pub list : List Listed
  pub id : ℕ
  pub model : KernelModel

-- W2. The decision with a lever at a value, and whether it selects the id
unfoldable pub decision_at : Question → ℕ → ℕ → Decision
decision_at a lever v = decision_by a.costs a.policy a.request (varied a.id (lever_at lever v a.model) a.list)

unfoldable pub wins : Question → ℕ → ℕ → Bool
wins a lever v = selects a.id (decision_at a lever v)

-- What was found with how many passes: none or one entry for each lever
pub record Sought : Type 0 where
  pub entries : List Entry
  pub passes : ℕ

abbrev pub entry : ℕ → ℕ → ℕ → Option ℕ → Entry
entry lever current boundary cost = record { lever = lever; current = current; boundary = boundary; cost = cost }

-- The entry that a search gives, if it found a boundary
abbrev pub at_boundary : (ℕ → Entry) → Bound → List Entry
at_boundary told found = map told (option_to_list found.boundary)

-- A lever that carries no cost
abbrev pub plain : ℕ → ℕ → Bound → Sought
plain lever current found = record { entries = at_boundary (λ b. entry lever current b none) found; passes = found.passes }

-- W9, P1. The price lever carries the decision's cost at its boundary, which is one pass more
abbrev pub priced : Question → Bound → Sought
priced a found =
    let entries = at_boundary (λ b. entry 3 ppm b (some (decision_at a 3 b).cost)) found in
    record { entries = entries; passes = found.passes + length entries }

abbrev pub and_then : Sought → Sought → Sought
and_then s t = record { entries = s.entries ++ t.entries; passes = s.passes + t.passes }

-- Nothing sought
abbrev pub no_search : Sought
no_search = record { entries = []; passes = 0 }

-- A room that no lever fills
abbrev pub no_entry : Entry
no_entry = entry 0 0 0 none

-- P1, P6. The answer, with room for four levers; the opening decision is one pass
unfoldable pub boundary_of : ℕ → Decision → Bool → Sought → Boundary
boundary_of id d blocked s = record {
  refusal = no_fault;
  model = id;
  decision = d;
  blocked = blocked;
  levers = s.entries ++ replicate (4 - length s.entries) no_entry;
  count = length s.entries;
  passes = 1 + s.passes;
}

-- The decision beside a refusal
abbrev pub no_decision : Decision
no_decision = decision_with 0 0 0 3 102 no_candidate [] 0 0

-- P6. A refusal carries no count: every other field has its one fixed value
abbrev pub boundary_refused : Fault → Boundary
boundary_refused f = record { refusal = some f; model = 0; decision = no_decision; blocked = false; levers = replicate 4 no_entry; count = 0; passes = 0 }

-- What a boundary call tells
abbrev pub told_bounds : Result Boundaries Refusal → Boundary
told_bounds (Ok b) = told_boundaries b
told_bounds (Err r) = boundary_refused (told_refusal r)
