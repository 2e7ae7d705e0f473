-- `limbs_products::product` meets its contract: the four products of halves are small enough to add up, and make the whole.
-- Assumes nothing.
use Rattle.rules.proofs.Kit.{◌^◌, arith}
use Rattle.rules.specs.Wide.{limbs}
use Rattle.limbs_products.proofs.{Products.four_products}
use Rattle.limbs_products.proofs.product.Goals as goal

pub returns : goal.returns
unfolding limbs
returns c = omega (arith, four_products (2 ^ 32) c.args.u c.args.v)
