-- `program_refusals::put_form_fault` meets its contract. Assumes nothing.
use Rattle.rules.proofs.Kit.{arith}
use Rattle.rules.specs.{Choice.equal, Text.text}
use Rattle.splice.proofs.Pieces.{written, written_none, promised_as}
use Rattle.program_refusals.specs.Parts.{form_words}
use Rattle.program_refusals.proofs.{Joins.formed_as, Joins.no_form_told}
use Rattle.program_refusals.proofs.put_form_fault.Goals as goal

pub returns-in-TooManyForProgram-clause-out_after : goal.returns-in-TooManyForProgram-clause-out_after
unfolding form_words equal text
returns-in-TooManyForProgram-clause-out_after c = promised_as (written _ _ _ c.put_sentence.ensures.out_after) (formed_as c.in-TooManyForProgram.is)

pub returns-in-CutShort-clause-out_after : goal.returns-in-CutShort-clause-out_after
unfolding form_words equal text
returns-in-CutShort-clause-out_after c = promised_as (written _ _ _ c.put_sentence-in-CutShort.ensures.out_after) (formed_as c.in-CutShort.is)

pub returns-in-WrongTag-clause-out_after : goal.returns-in-WrongTag-clause-out_after
unfolding form_words equal text
returns-in-WrongTag-clause-out_after c = promised_as (written _ _ _ c.put_sentence-in-WrongTag.ensures.out_after) (formed_as c.in-WrongTag.is)

pub returns-in-WrongLength-clause-out_after : goal.returns-in-WrongLength-clause-out_after
unfolding form_words equal text
returns-in-WrongLength-clause-out_after c = promised_as (written _ _ _ c.put_sentence-in-WrongLength.ensures.out_after) (formed_as c.in-WrongLength.is)

pub returns-in-UnknownRounding-clause-out_after : goal.returns-in-UnknownRounding-clause-out_after
unfolding form_words equal text
returns-in-UnknownRounding-clause-out_after c = promised_as (written _ _ _ c.put_sentence-in-UnknownRounding.ensures.out_after) (formed_as c.in-UnknownRounding.is)

pub returns-in-ZeroAllowance-clause-out_after : goal.returns-in-ZeroAllowance-clause-out_after
unfolding form_words equal text
returns-in-ZeroAllowance-clause-out_after c = promised_as (written _ _ _ c.put_sentence-in-ZeroAllowance.ensures.out_after) (formed_as c.in-ZeroAllowance.is)

pub returns-in_default-clause-out_after : goal.returns-in_default-clause-out_after
returns-in_default-clause-out_after c =
    let d = c.in_default in
    promised_as (written_none _ _ (omega arith))
    (no_form_told c.args.refusal d.not-TooManyForProgram d.not-CutShort d.not-WrongTag d.not-WrongLength d.not-UnknownRounding d.not-ZeroAllowance)
