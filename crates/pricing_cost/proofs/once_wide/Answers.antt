-- `pricing_cost::once_wide` meets its contract: prices split at a million. Assumes nothing.
use Rattle.rules.proofs.Kit.{◌-◌, arith, lit<}
use Rattle.rules.specs.{Limits.cost_scale, Price.billed, Price.billed_both}
use Rattle.limbs_products.proofs.Split.{split-two}
use Rattle.pricing_cost.proofs.once_wide.Goals as goal

pub returns : goal.returns
unfolding billed_both billed
returns c =
    let s = c.args in
    omega (arith, split-two cost_scale (lit< tt) s.input_tokens s.input_price s.output_tokens s.output_price (cost_scale - 1))
