-- `counterfactual_answer::noted_levers` meets its contract. Assumes nothing.
use Rattle.rules.proofs.Kit.{◌≤◌, arith, ap}
use Rattle.counterfactual_answer.specs.Levers.{LeverRooms}
use Rattle.counterfactual_answer.proofs.{Notes.note_passes, Notes.price_passes, Notes.four_noted}
use Rattle.counterfactual_answer.proofs.levers.noted_levers.Goals as goal
use Rattle.counterfactual_answer.proofs.levers.noted_levers.Goals.{After-note-one, After-note-two, After-note_price-three}

-- the passes of the room after each lever are few
few-1 : (c : After-note-one) → c.note-one.result.passes ≤ 67
few-1 c = omega (arith, note_passes _ _ _ c.args.quality c.note-one.ensures, ap (λ (t : LeverRooms). t.passes) c.no_levers.ensures, c.requires.by_quality)

few-2 : (c : After-note-two) → c.note-two.result.passes ≤ 133
few-2 c = omega (arith, note_passes _ _ _ c.args.latency c.note-two.ensures, few-1 c.before.before, c.requires.by_latency)

few-3 : (c : After-note_price-three) → c.note_price-three.result.passes ≤ 200
few-3 c = omega (arith, price_passes _ _ c.args.price c.note_price-three.ensures, few-2 c.before, c.requires.by_price)

pub note-two-requires : goal.note-two-requires
note-two-requires c = omega (arith, few-1 c.before, c.requires.by_latency)

pub note_price-three-requires : goal.note_price-three-requires
note_price-three-requires c = omega (arith, few-2 c, c.requires.by_price)

pub note-requires : goal.note-requires
note-requires c = omega (arith, few-3 c.before, c.requires.by_ceiling)

pub returns : goal.returns
returns c =
    let a = c.args in
    four_noted a.model a.cost a.quality a.latency a.price a.ceiling c.no_levers.ensures
    (rw c.from.ensures at c.note-one.ensures) (rw c.from-2.ensures at c.note-two.ensures) c.note_price-three.ensures (rw c.from-3.ensures at c.note.ensures)
