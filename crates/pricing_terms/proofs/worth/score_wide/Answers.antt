-- `pricing_terms::worth::score_wide` meets its contract: a negative difference is held at 0, any other at the highest u64.
-- Assumes nothing.
use Rattle.rules.proofs.Kit.{sym, ◌∙◌, arith, ltb-true, ltb-false}
use Rattle.rules.specs.Wide.{val}
use Rattle.pricing_terms.specs.Score.{score_of}
use Rattle.pricing_terms.proofs.{Scores.size_is}
use Rattle.pricing_terms.proofs.worth.score_wide.Goals as goal

pub returns-then-left : goal.returns-then-left
unfolding score_of
returns-then-left c =
    omega (
      arith,
      ltb-true (val c.add-up.result) (val c.args.loss)
          (sym c.difference-left.ensures.1 ∙ c.if-left.true),
    )

pub returns-else-left : goal.returns-else-left
unfolding score_of
returns-else-left c =
    let u = val c.add-up.result in
    let l = val c.args.loss in
    let d = c.difference-left in
    let f = c.if-left.false in
    let e = ltb-false u l (sym d.ensures.1 ∙ f) in
    omega (arith, size_is d.result u l f d.ensures.0 e)
