-- `program_sentences::put_levers_words` meets its contract. The loop's invariant: all is written but the sentences of the levers still to come.
-- Assumes nothing.
use Rattle.rules.proofs.Kit.{◌≡◌, arith, ap, length}
use Rattle.program_sentences.proofs.Joins.{begun, begun_more, begun_all}
use Rattle.program_sentences.proofs.put_levers_words.Goals as goal

pub loop-lever-init : goal.loop-lever-init
loop-lever-init c =
    let rest : c.into_iter-lever-iterator.result.iter.rest.now ≡ c.args.levers.levers = cc in
    let count : c.into_iter-lever-iterator.result.n ≡ c.args.levers.count = cc in
    record { room = rw rest (omega arith); begun = rw (rest, count) (begun _ _ _ (omega arith)) }

pub loop-lever-preserved : goal.loop-lever-preserved
loop-lever-preserved c =
    let l = c.loop-lever.invariant in
    let next = c.in-Some.ensures.steps in
    let w = c.put_lever_words-next.ensures in record {
      room = omega (arith, ap length next.0);
      begun = begun_more _ _ l.begun _ _ next.1 next.0 w.out_after;
    }

pub returns-clause-out_after : goal.returns-clause-out_after
returns-clause-out_after c = begun_all _ _ c.loop-lever.invariant.begun (λ h. (c.in-None.ensures.steps h).0)
