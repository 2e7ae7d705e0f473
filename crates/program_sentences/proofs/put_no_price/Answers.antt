-- `program_sentences::put_no_price` meets its contract. Assumes nothing.
use Rattle.rules.proofs.Kit.{arith}
use Rattle.rules.specs.{Text.text, Words.price_words}
use Rattle.program_sentences.proofs.put_no_price.Goals as goal

pub returns : goal.returns
unfolding price_words text
returns c =
    let w = c.put_sentence.ensures in record {
      out_after = w.out_after;
      upper_bound = omega (arith, w.value);
    }
