-- `pricing::settle::prefix_of` meets its contract: 48 bits and 16 make 64. Assumes nothing.
use Rattle.rules.proofs.Kit.{sym, ap, ◌∙◌, ◌*◌}
use Rattle.rules.proofs.{Choices.below-yes, Choices.below-no}
use Rattle.pricing.specs.Pricing.{prefix_of}
use Rattle.pricing.proofs.settle.prefix_of.Goals as goal

pub returns-then-value-lt-PREFIX_LIMIT : goal.returns-then-value-lt-PREFIX_LIMIT
unfolding prefix_of
returns-then-value-lt-PREFIX_LIMIT c = ap (λ n. c.args.value * n) c.from.ensures ∙ sym (below-yes _ _ _ _ c.if-value-lt-PREFIX_LIMIT.true)

pub returns-else-value-lt-PREFIX_LIMIT : goal.returns-else-value-lt-PREFIX_LIMIT
unfolding prefix_of
returns-else-value-lt-PREFIX_LIMIT c = sym (below-no _ _ _ _ c.if-value-lt-PREFIX_LIMIT.false)
