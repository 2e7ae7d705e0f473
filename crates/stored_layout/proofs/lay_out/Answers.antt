-- `stored_layout::lay_out` meets its contract. Assumes nothing.
use Rattle.stored_layout.proofs.{Forms.to_end, Forms.read-within, Forms.read_more, Forms.read-refused, Forms.read-beyond, Forms.read_whole}
use Rattle.stored_layout.proofs.lay_out.Goals as goal

pub returns-in_err-n : goal.returns-in_err-n
returns-in_err-n c = read-refused c.loop-tag.invariant c.loop-tag-test.true _ _ c.from_residual.ensures.1 c.in_err-n.ensures

pub slice_bounds-rest-count : goal.slice_bounds-rest-count
slice_bounds-rest-count c = read-within _ _ c.in_ok-n.ensures

pub slice_bounds-rest-start : goal.slice_bounds-rest-start
slice_bounds-rest-start c = read-within _ _ c.in_ok-n.ensures

pub loop-tag-preserved : goal.loop-tag-preserved
loop-tag-preserved c = rw to_end (read_more c.loop-tag.invariant c.loop-tag-test.true c.in_ok-n.ensures)

pub returns-then-not-is_empty : goal.returns-then-not-is_empty
returns-then-not-is_empty c = read-beyond c.loop-tag.invariant c.loop-tag-test.false c.if-not-is_empty.ensures

pub returns : goal.returns
returns c = read_whole c.loop-tag.invariant c.loop-tag-test.false c.if-not-is_empty.ensures
