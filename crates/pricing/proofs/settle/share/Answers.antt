-- `pricing::settle::share` meets its contract: a prefix below the highest u64 is the whole product. Assumes nothing.
use Rattle.rules.proofs.Kit.{ap, ◌∙◌, arith}
use Rattle.rules.specs.Wide.{wide_of}
use Rattle.pricing.proofs.{Values.prefix_share}
use Rattle.pricing.proofs.settle.share.Goals as goal

pub returns-then-prefix-lt-PREFIX_LIMIT : goal.returns-then-prefix-lt-PREFIX_LIMIT
returns-then-prefix-lt-PREFIX_LIMIT c =
    c.widened.ensures ∙ ap wide_of (c.share_small.ensures.0 ∙ prefix_share _ _ _ _ c.prefix_of-prefix.ensures (omega arith))
