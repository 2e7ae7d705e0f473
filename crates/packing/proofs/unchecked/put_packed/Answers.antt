-- `packing::unchecked::put_packed` meets its contract. Assumes nothing.
use Rattle.rules.proofs.Kit.{drop-cons, drop_of_length-le, add-one}
use Rattle.packing.proofs.{Packing.words-room, Packing.words_more, Packing.words-all}
use Rattle.packing.proofs.unchecked.put_packed.Goals as goal

pub put64-requires : goal.put64-requires
put64-requires c =
    (words-room (rw (drop-cons c.args.fields.now c.loop-width.width-index (0, 0) c.loop-width-test.true) at c.loop-width.invariant)).1

pub loop-width-preserved : goal.loop-width-preserved
loop-width-preserved c =
    rw add-one
    (words_more (rw (drop-cons c.args.fields.now c.loop-width.width-index (0, 0) c.loop-width-test.true) at c.loop-width.invariant) c.put64.ensures)

pub returns : goal.returns
returns c = words-all (rw (drop_of_length-le c.args.fields.now {i = c.loop-width.width-index} c.loop-width-test.false) at c.loop-width.invariant)
