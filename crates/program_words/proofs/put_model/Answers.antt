-- `program_words::put_model` meets its contract. Assumes nothing.
use Rattle.rules.specs.Numbers.{told_boundaries}
use Rattle.splice.proofs.Pieces.{written, promised_as}
use Rattle.program_words.proofs.{Sayings.stopped-said, Sayings.already-said, Sayings.unchosen-said}
use Rattle.program_words.proofs.put_model.Goals as goal

pub returns-then-asked : goal.returns-then-asked
returns-then-asked c =
    let a = c.args in
    promised_as (written _ _ _ c.put_stopped.ensures)
    (stopped-said a.policy a.input _ _ a.model (told_boundaries a.asked) c.if-asked.true)

pub returns-then-selected : goal.returns-then-selected
returns-then-selected c =
    let a = c.args in
    promised_as (written _ _ _ c.put_already.ensures)
    (already-said a.policy a.input _ _ a.model (told_boundaries a.asked) c.if-asked.false
    c.selected.ensures c.if-selected.true)

pub returns : goal.returns
returns c =
    let a = c.args in
    promised_as (written _ _ _ c.put_unchosen.ensures)
    (unchosen-said a.policy a.input _ _ a.model (told_boundaries a.asked)
    c.if-asked.false
    c.selected.ensures c.if-selected.false
    c.verdict_on-verdict.ensures c.quality_of-highest.ensures)
