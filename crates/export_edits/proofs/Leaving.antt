-- What an edit leaves, from what its tests and the calls below it tell. Assumes nothing.
use Rattle.rules.proofs.Kit.{ℕ, ◌≤◌, ◌≡◌, refl, sym, List, [], length}
use Rattle.rules.specs.{Limits.policy_bytes, Refused.Faults, Refused.first_fault, Refused.told_refusal, Refused.told_outcome, Refused.Answer, Numbers.EditedPolicy}
use Rattle.rules.specs.{Slots.live_faults, Stored.policy_size_faults, declared.refusal.Refusal.Refusal}
use Rattle.std.specs.Prelude.{Err}
use Rattle.rules.proofs.Faults.{unless_refused}
use Rattle.export_checks.specs.Checks.{word_at, handed}
use Rattle.export_checks.proofs.{Tests.then-room, Tests.after-policy, Tests.after-long, Tests.after-lent, Handed.both, Handed.tests-refused, Handed.tests-passed}
use Rattle.export_edits.specs.Edits.{Stock, stock, slot_size, slot_bytes, stock_faults, policy_after, leaves}

module _ (fs : Faults) (a : Answer EditedPolicy) (edited : List ℕ) (k : Stock) (out : List ℕ) where
  -- TESTS THAT REFUSED leave all as it was
  pub left_refused : {w : ℕ} (r : Refusal) → told_outcome (Err r) ≡ first_fault fs → w ≡ word_at 0 (told_refusal r)
      → ((w, out), k) ≡ leaves fs a edited k out
  left_refused r h word = both (tests-refused slot_bytes fs a out r h word) (sym (unless_refused fs _ _ refl h))

  -- THOSE THAT PASSED leave it to the edit
  pub left_edited : {t : Answer EditedPolicy} {p : ℕ × List ℕ} {policy bank : List ℕ} → fs ≡ [] → t ≡ a → p ≡ handed slot_bytes [] t out
      → policy ≡ policy_after t k.policy → bank ≡ edited → (p, stock policy bank) ≡ leaves fs a edited k out
  left_edited none e h raised made = both (tests-passed slot_bytes fs a out none e h) (rw (none, raised, made, e))

-- What an edit that passed its tests may count on
module _ (k : Stock) (room : ℕ) (none : stock_faults k room ≡ []) where
  pub stock_policy : policy_size_faults k.policy ≡ []
  stock_policy = after-policy k.policy (live_faults k.bank) slot_size room none

  pub stock_long : policy_bytes ≤ length k.policy
  stock_long = after-long k.policy (live_faults k.bank) slot_size room none

  pub stock_room : slot_size ≤ room
  stock_room = then-room (live_faults k.bank) slot_size room (after-lent k.policy (live_faults k.bank) slot_size room none)
