-- `export_forms::request_form_delivered` meets its contract. Assumes nothing.
use Rattle.rules.specs.Stored.{write_request_of, write_request_buffer}
use Rattle.export_checks.proofs.{Handed.first_handed, Tests.size-other, Tests.size_same}
use Rattle.export_forms.proofs.{Answering.written_so}
use Rattle.export_forms.proofs.forms.request_form_delivered.Goals as goal

pub returns-then-request-ne-REQUEST_BYTES : goal.returns-then-request-ne-REQUEST_BYTES
returns-then-request-ne-REQUEST_BYTES c = first_handed _ _ _ _ (size-other _ _ c.if-request-ne-REQUEST_BYTES.true) c.refusal_word.ensures

pub returns : goal.returns
unfolding write_request_of write_request_buffer
returns c =
    rw (size_same _ _ c.if-request-ne-REQUEST_BYTES.false, ← c.input_of.ensures)
    (written_so _ _ _ (record { is = c.write_request.ensures.0 }) c.write_request.ensures.1 c.written_word.ensures)
