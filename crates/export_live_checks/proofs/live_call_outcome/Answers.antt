-- `export_live_checks::live_call_outcome` meets its contract. Assumes nothing.
use Rattle.rules.proofs.Kit.{refl, sym}
use Rattle.rules.specs.Refused.{refused}
use Rattle.rules.proofs.Faults.{unless_refused}
use Rattle.export_checks.proofs.Tests.{size_none}
use Rattle.export_live_checks.specs.LiveChecks.{live_call_faults}
use Rattle.export_live_checks.proofs.{Openings.size_refused}
use Rattle.export_live_checks.proofs.live_call_outcome.Goals as goal

pub returns-then-request-ne-REQUEST_BYTES : goal.returns-then-request-ne-REQUEST_BYTES
unfolding live_call_faults
returns-then-request-ne-REQUEST_BYTES c = sym (unless_refused _ refused _ refl (size_refused _ _ _ c.if-request-ne-REQUEST_BYTES.true))

pub returns : goal.returns
unfolding live_call_faults
returns c = rw (size_none _ _ c.if-request-ne-REQUEST_BYTES.false) c.live_policy_outcome.ensures
