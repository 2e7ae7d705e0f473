-- `stored_layout::lay_out`, its loop: the form is read up to a tag. Assumes nothing.
use Rattle.stored_layout.proofs.{Forms.ReadTo}
use Rattle.stored_layout.proofs.lay_out.Given as goal

abbrev pub invariant-loop-tag : goal.invariant-loop-tag
invariant-loop-tag l = ReadTo l.tags l.form l.tag-index l.rest
