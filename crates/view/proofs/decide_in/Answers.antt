-- `view::decide_in` meets its contract. Assumes nothing.
use Rattle.rules.proofs.Kit.{rules}
use Rattle.rules.proofs.Kit.{sym, ap, ◌∙◌}
use Rattle.rules.specs.{Records.model_fields, Decide.decision_of}
use Rattle.packing.proofs.Layouts.{Fitting}
use Rattle.view.proofs.{Standing.stands-beyond, Standing.stands-inside}
use Rattle.view.proofs.decide_in.Goals as goal

pub returns-then-bank-index : goal.returns-then-bank-index
returns-then-bank-index c =
    c.decide.ensures ∙ ap (decision_of _ _) (sym (stands-beyond _ _ _ c.if-bank-index.true))

pub returns : goal.returns
returns c =
    -- each number of the model fits its field
    let good = c.well_formed.1.1.1.1.0 in
    let fits : Fitting (model_fields c.args.model) = search rules in
    c.decide_with.ensures ∙ ap (decision_of _ _)
    (stands-inside _ _ _ fits c.model_bytes.ensures)
