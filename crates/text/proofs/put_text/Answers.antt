-- `text::put_text` meets its contract. Assumes nothing.
use Rattle.rules.proofs.Kit.{arith}
use Rattle.splice.proofs.Pieces.{written_one, promised}
use Rattle.text.proofs.put_text.Goals as goal

pub returns-clause-out_after : goal.returns-clause-out_after
returns-clause-out_after c = promised (written_one _ _ (omega arith) c.put_bytes.ensures)
