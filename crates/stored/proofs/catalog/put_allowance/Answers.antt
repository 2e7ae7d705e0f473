-- `stored::catalog::put_allowance` meets its contract. Assumes nothing.
use Rattle.rules.proofs.Kit.{◌∙◌, arith}
use Rattle.rules.proofs.Choices.{equal-no}
use Rattle.endian_writing.proofs.Bytes.{low_first}
use Rattle.splice.proofs.Pieces.{written_none, promised}
use Rattle.stored.proofs.Optional.{no_field, its-field}
use Rattle.stored.proofs.catalog.put_allowance.Goals as goal

pub returns-then-allowance-eq0 : goal.returns-then-allowance-eq0
returns-then-allowance-eq0 c =
    let room = c.requires in
    rw (no_field _ c.if-allowance-eq0.true) (promised (written_none _ _ (omega (arith, room))))

pub put_field-requires : goal.put_field-requires
put_field-requires c = omega (arith, rw (equal-no _ _ _ _ c.if-allowance-eq0.false) at c.requires)

pub returns : goal.returns
returns c =
    let body = c.to_le_bytes.ensures ∙ low_first 4 c.args.allowance in
    rw (its-field _ c.if-allowance-eq0.false, ← body) c.put_field.ensures
