-- `endian_writing::put32` meets its contract: the part that the bytes are copied to is patched with them. Assumes nothing.
use Rattle.rules.proofs.Kit.{◌∙◌}
use Rattle.endian_writing.proofs.Stored.{number_patch}
use Rattle.endian_writing.proofs.put32.Goals as goal

pub returns : goal.returns
returns c = number_patch _ _ _ 4 _ (c.copy_from_slice.ensures.after ∙ c.to_le_bytes.ensures)
