-- Single bytes of a decision, and what is filled in first. Assumes nothing.
use Rattle.rules.proofs.Kit.{ℕ, ◌<◌, ◌≡◌, ◌∙◌, List, arith, length, set}
use Rattle.rules.specs.{Bytes.bytes_of, Bytes.packed, Numbers.Decision, Numbers.action_no}
use Rattle.rules.specs.{declared.decision.KernelAction.KernelAction}
use Rattle.endian_writing.specs.Put.{patched}
use Rattle.endian_writing.proofs.Stored.{byte_patch}
use Rattle.packing.proofs.Packing.{Laid}
use Rattle.splice.proofs.Pieces.{patched_start}
use Rattle.export_decision_bytes.specs.Layout.{decision_fields, uncounted_bytes}
use Rattle.rules.specs.declared.decision.KernelAction.TheVariants as action

-- An action's number is a byte of its own
action_small : (a : KernelAction) → action_no a < 256
action_small action.ExecuteRequested = omega arith
action_small action.Substitute = omega arith
action_small action.Reject = omega arith

pub action_patch : (d : List ℕ) (at : ℕ) {b : ℕ} (a : KernelAction) → at < length d → b ≡ action_no a → set d at b ≡ patched d at (bytes_of 1 (action_no a))
action_patch d at {b} a h e = rw e (byte_patch d at (action_no a) h (action_small a))

-- A DECISION AT THE START OF AN ARRAY fills in its fields
pub laid_decision : {e bytes : List ℕ} (z : List ℕ) (d : Decision) → bytes ≡ uncounted_bytes d → e ≡ patched z 0 bytes → Laid z (decision_fields d) e
unfolding uncounted_bytes
laid_decision {e} {bytes} z d is put = record { is = put ∙ rw is (patched_start z (packed (decision_fields d))) }
