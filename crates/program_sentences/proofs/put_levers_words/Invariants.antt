-- `program_sentences::put_levers_words` meets its contract. The loop's invariant: all is written but the sentences of the levers still to come.
-- Assumes nothing.
use Rattle.rules.proofs.Kit.{◌≤◌, ◌+◌, ◌*◌, length}
use Rattle.rules.specs.Words.{levers_words}
use Rattle.program_sentences.proofs.Joins.{Begun, entries}
use Rattle.program_sentences.proofs.put_levers_words.Given as goal

abbrev pub invariant-loop-lever : goal.invariant-loop-lever
invariant-loop-lever l =
    let rest = l.lever-iterator.iter.rest.now in
    let levers = l.fn.levers in record {
      room : l.next + 120 * length rest ≤ l.at + 480;
      begun : Begun l.initial.out l.at (levers_words (entries levers.count levers.levers)) (levers_words (entries l.lever-iterator.n rest)) l.out l.next;
    }
