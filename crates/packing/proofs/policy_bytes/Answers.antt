-- `packing::policy_bytes` meets its contract. Assumes nothing.
use Rattle.rules.proofs.Kit.{refl, replicate}
use Rattle.packing.proofs.{Trips.policy-laid}
use Rattle.packing.proofs.policy_bytes.Goals as goal

pub returns : goal.returns
returns c =
    policy-laid c.args.p (replicate 35 0) refl c.put_numbers.ensures c.number.ensures c.put32.ensures
