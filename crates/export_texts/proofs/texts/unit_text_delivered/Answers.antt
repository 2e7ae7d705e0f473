-- `export_texts::unit_text_delivered` meets its contract. Assumes nothing.
use Rattle.rules.proofs.Kit.{length}
use Rattle.rules.specs.Printed.{unit_text}
use Rattle.export_checks.proofs.Handed.{first_handed}
use Rattle.export_texts.proofs.{Headings.text_short, Headings.text-so}
use Rattle.export_texts.proofs.texts.unit_text_delivered.Goals as goal

pub returns-then-out-lt-LENGTH_BYTES : goal.returns-then-out-lt-LENGTH_BYTES
returns-then-out-lt-LENGTH_BYTES c =
    let a = c.args in
    first_handed _ _ _ _ (text_short (unit_text a.input.now) (length a.out.now) c.if-out-lt-LENGTH_BYTES.true) c.refusal_word.ensures

pub returns : goal.returns
returns c =
    let a = c.args in
    text-so (unit_text a.input.now) a.out.now c.if-out-lt-LENGTH_BYTES.false
    c.unit_text-written.ensures.0 c.unit_text-written.ensures.1 c.put_length.ensures
