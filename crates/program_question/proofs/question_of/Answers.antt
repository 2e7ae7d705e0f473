-- `program_question::question_of` meets its contract. Assumes nothing.
use Rattle.rules.proofs.Kit.{sym, ◌∙◌}
use Rattle.rules.specs.Text.{text}
use Rattle.program_question.proofs.Questions.{ask-none, ask-alone, ask-words, ask-others, ask-unclear}
use Rattle.program_question.proofs.question_of.Goals as goal
use Rattle.program_question.proofs.question_of.Goals.{else-count-eq3-via-then-count-eq3+else-eq, else-count-eq3-via-else-count-eq3}

pub returns-in_err-id : goal.returns-in_err-id
returns-in_err-id c = c.from_residual.ensures ∙ sym (ask-none _ _ _ c.in_err-id.ensures)

pub returns-then-count-eq2 : goal.returns-then-count-eq2
returns-then-count-eq2 c = sym (ask-alone _ _ _ c.if-count-eq2.true c.in_ok-id.ensures)

pub returns-then-eq : goal.returns-then-eq
unfolding text
returns-then-eq c = sym (ask-words _ _ _ c.if-count-eq3.true (rw c.as_slice.ensures at c.if-eq.ensures) c.in_ok-id.ensures)

pub returns : goal.returns
unfolding text
returns c =
    elim c.else-count-eq3.branch [
      | else-count-eq3-via-then-count-eq3+else-eq w ↦ sym (ask-unclear _ _ _ w.if-count-eq3.true (rw w.as_slice.ensures at w.if-eq.ensures))
      | else-count-eq3-via-else-count-eq3 w ↦ sym (ask-others _ _ _ c.if-count-eq2.false w.if-count-eq3.false)
    ]
