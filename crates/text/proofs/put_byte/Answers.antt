-- `text::put_byte` meets its contract. Assumes nothing.
use Rattle.rules.proofs.Kit.{[], ◌∷◌, arith}
use Rattle.endian_writing.proofs.Stored.{stored_patch}
use Rattle.splice.proofs.Pieces.{written_one, promised}
use Rattle.text.proofs.put_byte.Goals as goal

pub returns-clause-out_after : goal.returns-clause-out_after
returns-clause-out_after c =
    let a = c.args in
    promised (written_one a.at (a.byte ∷ []) (omega arith) (stored_patch a.out.now a.at (a.byte ∷ []) (omega arith)))
