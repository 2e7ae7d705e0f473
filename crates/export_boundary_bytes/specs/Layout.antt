-- What the boundary calls tell, in bytes: the fields of each part, a number beside its width, packed with no gap.
use Rattle.std.specs.Prelude.{ℕ, Bool, true, false, List, [], ◌∷◌, ◌++◌}
use Rattle.std.proofs.Math.Option.{Option, none, some}
use Rattle.rules.specs.Bytes.{packed}
use Rattle.rules.specs.Numbers.{Entry, Boundary}
use Rattle.export_decision_bytes.specs.Layout.{uncounted_bytes}

-- A lever's bytes, and the whole answer's
abbrev pub lever_size : ℕ
lever_size = 26

abbrev pub boundary_size : ℕ
boundary_size = 183

-- A question's answer, and whether a cost is carried: 1 or 0
abbrev pub flag_no : Bool → ℕ
flag_no true = 1
flag_no false = 0

abbrev pub has_cost_no : Option ℕ → ℕ
has_cost_no none = 0
has_cost_no (some cost) = 1

-- The cost, 0 where none is carried
abbrev pub cost_or : Option ℕ → ℕ
cost_or none = 0
cost_or (some cost) = cost

-- A lever's room
unfoldable pub lever_bytes : Entry → List ℕ
lever_bytes e =
    packed ((1, e.lever)
    ∷ (8, e.current)
    ∷ (8, e.boundary)
    ∷ (1, has_cost_no e.cost)
    ∷ (8, cost_or e.cost)
    ∷ [])

-- Rooms one after the other
unfoldable pub rooms_bytes : List Entry → List ℕ
rooms_bytes [] = []
rooms_bytes (e ∷ es) = lever_bytes e ++ rooms_bytes es

-- After the decision: model, blocked by the request, count of levers, passes
abbrev pub head_bytes : Boundary → List ℕ
head_bytes b = packed ((4, b.model) ∷ (1, flag_no b.blocked) ∷ (1, b.count) ∷ (8, b.passes) ∷ [])

-- The answer: the decision, what stands after it, and from 79 on four rooms
unfoldable pub boundary_bytes : Boundary → List ℕ
boundary_bytes b = (uncounted_bytes b.decision ++ head_bytes b) ++ rooms_bytes b.levers
