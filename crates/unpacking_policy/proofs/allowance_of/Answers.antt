-- `unpacking_policy::allowance_of` meets its contract. Assumes nothing.
use Rattle.rules.proofs.Kit.{drop_of_length-le}
use Rattle.rules.specs.Bytes.{number}
use Rattle.unpacking_policy.proofs.{Policies.policy-short}
use Rattle.unpacking_policy.proofs.allowance_of.Goals as goal

-- no byte says 0
pub returns-then-s-lt-LONGEST_POLICY_BYTES : goal.returns-then-s-lt-LONGEST_POLICY_BYTES
unfolding number
returns-then-s-lt-LONGEST_POLICY_BYTES c =
    let s = c.args.s.now in
    rw (drop_of_length-le s {i = 31} (policy-short s c.requires c.if-s-lt-LONGEST_POLICY_BYTES.true))
