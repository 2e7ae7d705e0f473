-- `program_standing::choice::put_chosen` meets its contract. Assumes nothing.
use Rattle.rules.proofs.Kit.{rules, w64, SFits, to_z-of_z}
use Rattle.rules.specs.{Numbers.told_decision, Text.text}
use Rattle.splice.proofs.Pieces.{written_then, written, promised_as}
use Rattle.program_standing.proofs.Choices.{chosen_joins}
use Rattle.program_standing.proofs.choice.put_chosen.Goals as goal

pub returns-clause-out_after : goal.returns-clause-out_after
unfolding text
returns-clause-out_after c =
    let p = c.put_comparing-next.ensures in
    let q = c.put_signed-end.ensures in
    let r = c.put_sentence.ensures in
    let a = c.args.decision in
    let f : SFits w64 a.expected_utility_microunits = record { sfits = search rules } in
    promised_as (written_then (written_then (written _ _ _ (rw c.from.ensures at p.out_after)) (written _ _ _ q.out_after)) (written _ _ _ r.out_after))
    (chosen_joins (told_decision a) (to_z-of_z w64 _ f))
