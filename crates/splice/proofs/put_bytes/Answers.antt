-- `splice::put_bytes` meets its contract: the part that the bytes are copied to is patched with them. Assumes nothing.
use Rattle.rules.proofs.Kit.{refl}
use Rattle.endian_writing.proofs.Stored.{part_patch}
use Rattle.splice.proofs.put_bytes.Goals as goal

pub returns : goal.returns
returns c = part_patch _ _ _ _ _ c.copy_from_slice.ensures.after refl
