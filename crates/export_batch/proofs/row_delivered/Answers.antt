-- `export_batch::row_delivered` meets its contract. Assumes nothing.
use Rattle.rules.proofs.Kit.{refl, ◌∙◌, arith}
use Rattle.live_slots.proofs.Among.{all_read, all_among}
use Rattle.export_checks.proofs.Handed.{both}
use Rattle.export_batch.proofs.{Refusals.passed-requests, Refusals.passed-policy, Refusals.passed-bank, Refusals.passed-room}
use Rattle.export_batch.proofs.row_delivered.Goals as goal

pub overflow_cast-every : goal.overflow_cast-every
overflow_cast-every c = omega (arith, passed-bank _ _ c.requires)

pub policy_of-requires : goal.policy_of-requires
policy_of-requires c = passed-policy _ _ c.requires

pub put_decisions-requires : goal.put_decisions-requires
put_decisions-requires c = (all_among _ (passed-bank _ _ c.requires), omega (arith, passed-requests _ _ c.requires), passed-room _ _ c.requires)

pub returns : goal.returns
returns c = both refl (c.put_decisions.ensures ∙ rw (c.policy_of.ensures, all_read _))
