-- `unpacking_policy::rounding_byte` meets its contract. Assumes nothing.
use Rattle.rules.proofs.Kit.{arith, drop_of_length-le}
use Rattle.rules.specs.Bytes.{number}
use Rattle.endian.proofs.Spelled.{byte_at}
use Rattle.unpacking_policy.proofs.rounding_byte.Goals as goal

pub returns-then-s-gt-POLICY_BYTES : goal.returns-then-s-gt-POLICY_BYTES
returns-then-s-gt-POLICY_BYTES c = byte_at c.args.s.now 30 (omega arith)

-- no byte says 0
pub returns : goal.returns
unfolding number
returns c = rw (drop_of_length-le c.args.s.now {i = 30} (omega arith))
