-- `program_question::id_of` meets its contract. The loop's invariant: what is left says the rest of the question. Assumes nothing.
use Rattle.rules.proofs.Kit.{◌≤◌, ◌≡◌}
use Rattle.program_question.specs.DeskQuestion.{about_of}
use Rattle.program_question.proofs.Questions.{left}
use Rattle.program_question.proofs.id_of.Given as goal

abbrev pub invariant-loop-byte : goal.invariant-loop-byte
invariant-loop-byte l = (l.id ≤ 4294967295) × (about_of l.text ≡ left l.text l.byte-index l.id)
