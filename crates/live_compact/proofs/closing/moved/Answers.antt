-- `live_compact::moved` meets its contract: the bytes held are the record's, and a record that stands where it should is as it is. Assumes nothing.
use Rattle.rules.proofs.Kit.{◌+◌, ◌-◌, ◌*◌, ◌≡◌, ◌∙◌, arith, length, drop, length-drop, length-take-le}
use Rattle.rules.specs.Records.{record_part}
use Rattle.endian_writing.proofs.Stored.{part_patch}
use Rattle.live_compact.proofs.{Gaps.kept}
use Rattle.live_compact.proofs.closing.moved.Goals as goal

pub returns-then-to-from : goal.returns-then-to-from
returns-then-to-from c =
    let a = c.args in
    let size : 47 * a.from + 47 - 47 * a.from ≡ 47 = omega arith in
    let part = rw c.unwrap-bytes.ensures at c.try_into.ensures in
    let held : c.unwrap-bytes.result ≡ record_part a.bank.now a.from = rw size at part.1.same in
    let one : length (record_part a.bank.now a.from) ≡ 47 = length-take-le 47 (drop (47 * a.from) a.bank.now) (simp length-drop (omega arith)) in
    part_patch _ _ _ _ _ (c.copy_from_slice.ensures.after ∙ held) one

pub returns-else-to-from : goal.returns-else-to-from
returns-else-to-from c =
    let a = c.args in
    let e : a.to ≡ a.from = omega arith in
    rw e (kept a.bank.now (47 * a.from) (omega arith))
