-- `pricing_cost::cost` meets its contract: two small prices go by 64 bits, and need no holding. Assumes nothing.
use Rattle.rules.proofs.Kit.{arith}
use Rattle.pricing_cost.proofs.{Fits.apart_fits, Fits.once-fits}
use Rattle.pricing_cost.proofs.cost.Goals as goal

pub once_small-requires : goal.once_small-requires
once_small-requires c =
    let s = c.args in
    once-fits s.input.input_tokens s.input.output_tokens _ _ _ (omega arith) (omega arith) c.price_limit-limit.ensures c.if-price-half.true
    c.if-output_price-half.true

pub apart_small-requires : goal.apart_small-requires
apart_small-requires c =
    let s = c.args in
    apart_fits s.input.input_tokens s.input.output_tokens _ _ _ (omega arith) (omega arith) c.price_limit-limit.ensures c.if-price-limit.true
    c.if-output_price-limit.true
