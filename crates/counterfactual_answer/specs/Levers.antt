-- Room for four levers in document 01's numbers, and what goes into it.
use Rattle.std.specs.Prelude.{ℕ, ◌+◌, ◌-◌, ◌≤◌, Bool, List, [], ◌∷◌, ◌++◌, map, length, set, replicate, unwrap_or, option_map}
use Rattle.std.proofs.Math.Option.{Option, some}
use Rattle.rules.specs.Limits.{ppm}
use Rattle.rules.specs.Choice.{below}
use Rattle.rules.specs.Refused.{Fault}
use Rattle.rules.specs.Numbers.{Decision, Entry, told_entry, Boundary}
use Rattle.rules.specs.Halving.{passes_of}
use Rattle.rules.specs.Levers.{Question, decision_at, Sought, entry, at_boundary, plain, and_then, no_entry}
use Rattle.rules.specs.declared.records.KernelModel.{KernelModel}
use Rattle.rules.specs.declared.boundary.Bound.{Bound}
use Rattle.rules.specs.declared.boundary.Levers.{Levers}

-- The levers' part of an answer
pub record LeverRooms : Type 0 where
  pub levers : List Entry
  pub count : ℕ
  pub passes : ℕ

abbrev pub told_levers : Levers → LeverRooms
told_levers l = record { levers = map told_entry l.levers; count = l.count; passes = l.passes }

abbrev pub empty_room : ℕ → LeverRooms
empty_room n = record { levers = replicate 4 no_entry; count = 0; passes = n }

-- One lever more, where there is room for it
unfoldable pub pushed : LeverRooms → Entry → LeverRooms
pushed t e =
    below t.count 4 (record { levers = set t.levers t.count e; count = t.count + 1; passes = t.passes }) t

abbrev pub passed : LeverRooms → ℕ → LeverRooms
passed t n = record { levers = t.levers; count = t.count; passes = t.passes + n }

-- One after the other, and what was sought with its passes
abbrev pub all_pushed : LeverRooms → List Entry → LeverRooms
all_pushed t [] = t
all_pushed t (e ∷ es) = all_pushed (pushed t e) es

abbrev pub rooms_joined : LeverRooms → Sought → LeverRooms
rooms_joined t s = passed (all_pushed t s.entries) s.passes

-- P1, P6. What was sought, after the opening decision's pass
unfoldable pub room_of : Sought → LeverRooms
room_of s =
    record {
      levers = s.entries ++ replicate (4 - length s.entries) no_entry;
      count = length s.entries;
      passes = 1 + s.passes;
    }

-- P6. The answer that such a room stands in
abbrev pub boundary_with : Option Fault → ℕ → Decision → Bool → LeverRooms → Boundary
boundary_with f id d blocked t =
    record {
      refusal = f;
      model = id;
      decision = d;
      blocked = blocked;
      levers = t.levers;
      count = t.count;
      passes = t.passes;
    }

-- W9. The cost at the price's boundary, 0 where there is none; and the price lever with a cost
abbrev pub cost_at : Question → Bound → ℕ
cost_at a found = unwrap_or (option_map (λ b. (decision_at a 3 b).cost) found.boundary) 0

abbrev pub priced_by : ℕ → Bound → Sought
priced_by cost found =
    let entries = at_boundary (λ b. entry 3 ppm b (some cost)) found in
    record { entries = entries; passes = found.passes + length entries }

-- W10. Four levers of a model, by what their searches found
abbrev pub four_sought : KernelModel → Bound → Bound → Sought → Bound → Sought
four_sought m quality latency price ceiling =
    and_then (plain 1 m.quality_bps quality)
    (and_then (plain 2 m.p95_latency_ms latency) (and_then price (plain 4 m.risk_ceiling_bps ceiling)))

-- No search over 64 bits takes more passes
pub record FewPasses (quality latency price ceiling : Bound) : Type 0 where
  pub by_quality : passes_of quality ≤ 66
  pub by_latency : passes_of latency ≤ 66
  pub by_price : passes_of price ≤ 66
  pub by_ceiling : passes_of ceiling ≤ 66
