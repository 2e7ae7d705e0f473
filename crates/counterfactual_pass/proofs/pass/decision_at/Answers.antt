-- `counterfactual_pass::decision_at` meets its contract: such a bank is never refused. Assumes nothing.
use Rattle.rules.proofs.Kit.{sym, ap, ◌∙◌}
use Rattle.rules.specs.Numbers.{told_prescribed}
use Rattle.counterfactual_pass.proofs.{Passes.pass-answers, Passes.pass-decides}
use Rattle.counterfactual_pass.proofs.pass.decision_at.Goals as goal

pub unwrap-requires : goal.unwrap-requires
unwrap-requires c = pass-answers _ _ c.requires.stands _ _ _ c.decide_with_model.ensures

pub returns : goal.returns
returns c =
    pass-decides _ _ c.requires.stands _ _ _ c.lever_at-model.ensures (sym (ap told_prescribed c.unwrap.ensures) ∙ c.decide_with_model.ensures)
