-- `catalogue_records::repeat_among_earlier` meets its contract. Assumes nothing.
use Rattle.rules.proofs.Kit.{arith, ◌∙◌}
use Rattle.rules.specs.{Refused.first_fault, Refused.told_outcome}
use Rattle.catalogue_records.proofs.{Walks.id-model, Walks.repeat-here, Walks.repeat-later, Walks.repeat-none}
use Rattle.catalogue_records.proofs.ids.repeat_among_earlier.Goals as goal

pub returns-then-id_at-id : goal.returns-then-id_at-id
unfolding first_fault told_outcome
returns-then-id_at-id c =
    let l = c.loop-earlier in
    rw (← id-model _ c.args.place _ c.id_at-id.ensures, l.invariant ∙ repeat-here _ c.args.place l.earlier _ _ (omega arith) (omega arith) c.id_at.ensures c.if-id_at-id.true)

pub loop-earlier-preserved : goal.loop-earlier-preserved
loop-earlier-preserved c =
    let l = c.loop-earlier in
    l.invariant ∙ repeat-later _ c.args.place l.earlier _ _ (omega arith) (omega arith) c.id_at.ensures c.if-id_at-id.false

pub returns : goal.returns
unfolding first_fault told_outcome
returns c =
    let l = c.loop-earlier in
    rw (← id-model _ c.args.place _ c.id_at-id.ensures, l.invariant ∙ repeat-none _ c.args.place l.earlier _ (omega arith) (omega arith))
