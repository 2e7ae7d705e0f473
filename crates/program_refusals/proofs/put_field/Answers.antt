-- `program_refusals::put_field` meets its contract. Assumes nothing.
use Rattle.rules.proofs.Kit.{arith}
use Rattle.rules.specs.{Choice.equal, Text.text, FaultWords.field_words}
use Rattle.splice.proofs.Pieces.{written, promised_as}
use Rattle.program_refusals.proofs.{Joins.said_as, Joins.last_field}
use Rattle.program_refusals.proofs.put_field.Goals as goal

pub returns-in-1-clause-out_after : goal.returns-in-1-clause-out_after
unfolding field_words equal text
returns-in-1-clause-out_after c =
    let w = c.put_past_whole.ensures in
    promised_as (written _ _ _ w.out_after) (said_as c.in-1.is _)

pub returns-in-2-clause-out_after : goal.returns-in-2-clause-out_after
unfolding field_words equal text
returns-in-2-clause-out_after c =
    let w = c.put_past_whole-in-2.ensures in
    promised_as (written _ _ _ w.out_after) (said_as c.in-2.is _)

pub returns-in-3-clause-out_after : goal.returns-in-3-clause-out_after
unfolding field_words equal text
returns-in-3-clause-out_after c =
    let w = c.put_past_whole-in-3.ensures in
    promised_as (written _ _ _ w.out_after) (said_as c.in-3.is _)

pub returns-in-4-clause-out_after : goal.returns-in-4-clause-out_after
unfolding field_words equal text
returns-in-4-clause-out_after c =
    let w = c.put_past_whole-in-4.ensures in
    promised_as (written _ _ _ w.out_after) (said_as c.in-4.is _)

pub returns-in-5-clause-out_after : goal.returns-in-5-clause-out_after
unfolding field_words equal text
returns-in-5-clause-out_after c =
    let w = c.put_past_whole-in-5.ensures in
    promised_as (written _ _ _ w.out_after) (said_as c.in-5.is _)

pub returns-in_default-clause-out_after : goal.returns-in_default-clause-out_after
unfolding text
returns-in_default-clause-out_after c =
    let w = c.put_too_many.ensures in
    promised_as (written _ _ _ w.out_after) (last_field (omega arith) (omega arith) (omega arith) (omega arith) (omega arith) _)
