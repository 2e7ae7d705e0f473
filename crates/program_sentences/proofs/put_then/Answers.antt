-- `program_sentences::put_then` meets its contract. Assumes nothing.
use Rattle.rules.specs.{Text.text, Words.cost_words}
use Rattle.program_sentences.proofs.put_then.Goals as goal

pub returns-in-None-clause-out_after : goal.returns-in-None-clause-out_after
unfolding cost_words text
returns-in-None-clause-out_after c = rw c.in-None.is c.put_text.ensures.out_after

pub returns-in-Some-clause-out_after : goal.returns-in-Some-clause-out_after
unfolding cost_words text
returns-in-Some-clause-out_after c = rw c.in-Some.is c.put_about.ensures.out_after
