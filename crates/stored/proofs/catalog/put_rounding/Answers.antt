-- `stored::catalog::put_rounding` meets its contract. Assumes nothing.
use Rattle.rules.proofs.Kit.{arith}
use Rattle.rules.specs.Stored.{rounding_field}
use Rattle.splice.proofs.Pieces.{written_none, promised}
use Rattle.stored.proofs.catalog.put_rounding.Goals as goal

pub returns-in-Apart : goal.returns-in-Apart
unfolding rounding_field
returns-in-Apart c =
    let room = c.requires in
    rw c.in-Apart.is (promised (written_none _ _ (omega (arith, room))))

pub returns-in-Once : goal.returns-in-Once
unfolding rounding_field
returns-in-Once c = rw c.in-Once.is c.put_field.ensures
