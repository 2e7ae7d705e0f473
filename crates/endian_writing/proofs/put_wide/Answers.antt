-- `endian_writing::put_wide` meets its contract: two patches, one right after the other, are one. Assumes nothing.
use Rattle.rules.proofs.Kit.{arith}
use Rattle.endian_writing.proofs.{Limbs.patch_limbs}
use Rattle.endian_writing.proofs.put_wide.Goals as goal

pub returns : goal.returns
returns c =
    let a = c.args in
    patch_limbs a.d.now _ _ a.at a.w.hi a.w.lo (omega arith) (omega arith) c.put64.ensures
    c.put64-2.ensures
