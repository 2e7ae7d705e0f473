-- `program_question::id_of` meets its contract. Assumes nothing.
use Rattle.rules.proofs.Kit.{◌≡◌, ◌+◌, ◌*◌, ◌-◌, ◌∙◌, sym, arith, get_or, eqb-true, eqb-false}
use Rattle.program_question.proofs.Questions.{left_all, left_none, left_end, left-stops, left-next, left_over}
use Rattle.program_question.proofs.id_of.Goals as goal

pub returns-then-is_empty : goal.returns-then-is_empty
returns-then-is_empty c = left_none _ (eqb-true _ _ (sym c.if-is_empty.ensures))

pub loop-byte-init : goal.loop-byte-init
loop-byte-init c = (omega arith, left_all _ (omega (arith, eqb-false _ _ (sym c.if-is_empty.ensures))))

pub returns-then-not-is_ascii_digit : goal.returns-then-not-is_ascii_digit
returns-then-not-is_ascii_digit c =
    c.loop-byte.invariant.1 ∙ left-stops _ _ _ c.loop-byte-test.true c.if-not-is_ascii_digit.ensures.cases

pub returns-in_err-checked_mul : goal.returns-in_err-checked_mul
returns-in_err-checked_mul c =
    let digit = c.if-not-is_ascii_digit.ensures.cases in
    rw c.from_residual.ensures
    (c.loop-byte.invariant.1 ∙ left_over _ _ _ c.loop-byte-test.true digit.0 digit.1 (omega arith))

pub returns-in_err-id : goal.returns-in_err-id
returns-in_err-id c =
    let digit = c.if-not-is_ascii_digit.ensures.cases in
    rw c.from_residual-in_err-id.ensures
    (c.loop-byte.invariant.1 ∙ left_over _ _ _ c.loop-byte-test.true digit.0 digit.1 (omega arith))

pub loop-byte-preserved : goal.loop-byte-preserved
loop-byte-preserved c =
    let digit = c.if-not-is_ascii_digit.ensures.cases in
    let next : c.in_ok-id.id ≡ c.loop-byte.id * 10 + (get_or c.args.text.now c.loop-byte.byte-index 0 - 48) = omega arith in
    (omega arith, rw next (c.loop-byte.invariant.1 ∙ left-next _ _ _ c.loop-byte-test.true digit.0 digit.1))

pub returns : goal.returns
returns c = c.loop-byte.invariant.1 ∙ left_end _ _ _ (omega arith) c.loop-byte.invariant.0
