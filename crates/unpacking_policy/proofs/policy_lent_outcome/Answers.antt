-- `unpacking_policy::policy_lent_outcome` meets its contract. Assumes nothing.
use Rattle.rules.proofs.Kit.{arith, eq-eqb, ne_eqb, lt-ltb, le-ltb, drop_of_length-le}
use Rattle.rules.specs.{Bytes.number, Refused.told_outcome, Refused.first_fault, Stored.policy_size_faults, Stored.rounding_faults}
use Rattle.unpacking_policy.proofs.policy_lent_outcome.Goals as goal

-- of 30 bytes, no byte says 0
pub returns-then-n-eq-POLICY_BYTES : goal.returns-then-n-eq-POLICY_BYTES
unfolding told_outcome first_fault policy_size_faults rounding_faults number
returns-then-n-eq-POLICY_BYTES c = rw (eq-eqb _ _ c.if-n-eq-POLICY_BYTES.true, drop_of_length-le c.args.bytes.now {i = 30} (omega arith))

pub returns-then-not-is_longer_policy : goal.returns-then-not-is_longer_policy
unfolding told_outcome first_fault policy_size_faults
returns-then-not-is_longer_policy c = rw (ne_eqb _ _ c.if-n-eq-POLICY_BYTES.false, ← c.is_longer_policy.ensures, c.if-not-is_longer_policy.true)

pub returns-then-rounding_byte-gt-ONCE : goal.returns-then-rounding_byte-gt-ONCE
unfolding told_outcome first_fault policy_size_faults rounding_faults
returns-then-rounding_byte-gt-ONCE c =
    rw (
      ne_eqb _ _ c.if-n-eq-POLICY_BYTES.false,
      ← c.is_longer_policy.ensures,
      c.if-not-is_longer_policy.false,
      ← c.rounding_byte.ensures,
      lt-ltb _ _ c.if-rounding_byte-gt-ONCE.true,
    )

pub returns : goal.returns
unfolding told_outcome first_fault policy_size_faults rounding_faults
returns c =
    rw (
      ne_eqb _ _ c.if-n-eq-POLICY_BYTES.false,
      ← c.is_longer_policy.ensures,
      c.if-not-is_longer_policy.false,
      ← c.rounding_byte.ensures,
      le-ltb 1 c.rounding_byte.result (omega arith),
    )
