-- ANY TWO PERMITTED ANSWERS ARE EQUAL, for the call that a user makes. Assumes nothing.
use Rattle.rules.proofs.Kit.{ℕ, List}
use Rattle.rules.specs.{Numbers.told_policy, Stored.read_policy_of}
use Rattle.rules.proofs.Told.{Same}
use Rattle.rules.proofs.ToldStored as stored

pub one_policy : (bytes : List ℕ) → Same told_policy (read_policy_of bytes)
one_policy bytes = stored.one_policy _
