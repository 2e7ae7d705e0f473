-- `program_refusals::put_refused_words` meets its contract. Assumes nothing.
use Rattle.rules.specs.FaultWords.{refused_words}
use Rattle.splice.proofs.Pieces.{written_then, written, promised}
use Rattle.program_refusals.proofs.put_refused_words.Goals as goal

pub returns : goal.returns
unfolding refused_words
returns c =
    let p = c.put_refused-next.ensures in
    let q = c.put_fault.ensures in
    promised (written_then (written _ _ _ p.out_after) (written _ _ _ q.out_after))
