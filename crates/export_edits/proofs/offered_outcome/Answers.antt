-- `export_edits::offered_outcome` meets its contract. Assumes nothing.
use Rattle.rules.proofs.Kit.{sym, ap, ◌∙◌}
use Rattle.rules.specs.Refused.{first_fault}
use Rattle.export_checks.proofs.Tests.{size_same}
use Rattle.export_live_checks.proofs.Openings.{size_refused}
use Rattle.export_edits.proofs.offered_outcome.Goals as goal

pub returns-then-bytes-ne-RECORD_BYTES : goal.returns-then-bytes-ne-RECORD_BYTES
returns-then-bytes-ne-RECORD_BYTES c = size_refused _ _ _ c.if-bytes-ne-RECORD_BYTES.true

pub returns : goal.returns
returns c = c.stock_outcome.ensures ∙ sym (ap first_fault (size_same _ _ c.if-bytes-ne-RECORD_BYTES.false))
