-- `export_texts::ask_text_delivered` meets its contract. Assumes nothing.
use Rattle.rules.proofs.Kit.{length}
use Rattle.rules.specs.Printed.{ask_text}
use Rattle.export_checks.proofs.Handed.{first_handed}
use Rattle.export_texts.proofs.{Headings.text_short, Headings.text-so}
use Rattle.export_texts.proofs.texts.ask_text_delivered.Goals as goal

pub returns-then-out-lt-LENGTH_BYTES : goal.returns-then-out-lt-LENGTH_BYTES
returns-then-out-lt-LENGTH_BYTES c =
    let a = c.args in
    first_handed _ _ _ _ (text_short (ask_text a.id a.input.now) (length a.out.now) c.if-out-lt-LENGTH_BYTES.true) c.refusal_word.ensures

pub returns : goal.returns
returns c =
    let a = c.args in
    text-so (ask_text a.id a.input.now) a.out.now c.if-out-lt-LENGTH_BYTES.false
    c.ask_text-written.ensures.0 c.ask_text-written.ensures.1 c.put_length.ensures
