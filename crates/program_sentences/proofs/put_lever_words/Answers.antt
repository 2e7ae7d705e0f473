-- `program_sentences::put_lever_words` meets its contract: the price has no sentence here, and who is none of the four is the switch. Assumes nothing.
use Rattle.rules.proofs.Kit.{arith, ne_eqb}
use Rattle.rules.specs.{Choice.equal, Text.text, Words.lever_words, Words.rise_words}
use Rattle.splice.proofs.Pieces.{written_none, promised}
use Rattle.program_sentences.proofs.put_lever_words.Goals as goal

pub returns-in-3-clause-out_after : goal.returns-in-3-clause-out_after
unfolding lever_words equal
returns-in-3-clause-out_after c = rw c.in-3.is (promised (written_none _ _ (omega arith)))

pub returns-in-4-clause-out_after : goal.returns-in-4-clause-out_after
unfolding lever_words rise_words equal text
returns-in-4-clause-out_after c = rw c.in-4.is c.put_rise-in-4.ensures.out_after

pub returns-in_default-clause-out_after : goal.returns-in_default-clause-out_after
unfolding lever_words equal text
returns-in_default-clause-out_after c =
    let n = c.args.lever.lever in
    simp (ne_eqb n 1 (omega arith), ne_eqb n 2 (omega arith), ne_eqb n 3 (omega arith), ne_eqb n 4 (omega arith)) c.put_sentence.ensures.out_after
