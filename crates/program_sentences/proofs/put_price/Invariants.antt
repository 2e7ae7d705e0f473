-- `program_sentences::put_price` meets its contract. The loop's invariant: the price's sentence is that of the levers still to come, since none before
-- is it. Assumes nothing.
use Rattle.rules.proofs.Kit.{◌≡◌}
use Rattle.rules.specs.Words.{price_words}
use Rattle.program_sentences.proofs.Joins.{entries}
use Rattle.program_sentences.proofs.put_price.Given as goal

abbrev pub invariant-loop-lever : goal.invariant-loop-lever
invariant-loop-lever l =
    let levers = l.fn.levers in record {
      kept : l.out ≡ l.initial.out;
      price : price_words (entries levers.count levers.levers) ≡ price_words (entries l.lever-iterator.n l.lever-iterator.iter.rest.now);
    }
