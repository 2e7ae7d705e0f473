-- For each exported function that edits a bank: its refusals in their order, and what it leaves, the word, the buffer, the policy's bytes and the bank.
use Rattle.std.specs.Prelude.{ℕ, List, length}
use Rattle.rules.specs.Bytes.{bytes_of}
use Rattle.rules.specs.Records.{policy_of}
use Rattle.rules.specs.Refused.{Faults, unless, Answer, refused, answered}
use Rattle.rules.specs.Numbers.{EditedPolicy}
use Rattle.rules.specs.Edits.{offered, add_of, add_bank, replace_of, replace_bank, remove_of, remove_bank, compact_of, compact_bank}
use Rattle.rules.specs.declared.records.PolicySnapshot.{PolicySnapshot}
use Rattle.export_checks.specs.Checks.{handed}
use Rattle.export_live_checks.specs.LiveChecks.{live_policy_faults}
use Rattle.export_edits.specs.Epoch.{with_epoch}

-- ---- what an edit may write

-- What is lent to be edited: a policy's bytes and a bank
pub record Stock : Type 0 where
  pub policy : List ℕ
  pub bank : List ℕ

abbrev pub stock : List ℕ → List ℕ → Stock
stock policy bank = record { policy = policy; bank = bank }

-- The bytes of a slot's number, or of how many records are live: a u16
abbrev pub slot_size : ℕ
slot_size = 2

abbrev pub slot_bytes : EditedPolicy → List ℕ
slot_bytes e = bytes_of slot_size e.number

-- 22, 23, 1, 2, 34, 4: what is tested before the edit's own refusals
abbrev pub stock_faults : Stock → ℕ → Faults
stock_faults k room = live_policy_faults k.policy k.bank slot_size room

-- S7. The policy's bytes at exit: with the epoch that is answered, or as they were
abbrev pub policy_after : Answer EditedPolicy → List ℕ → List ℕ
policy_after (refused f) policy = policy
policy_after (answered e) policy = with_epoch policy e.policy.catalog_epoch

-- WORD AND BUFFER, AND WHAT WAS LENT TO BE EDITED, as an edit leaves them: by what is tested first, by what it answers, and by the bank that it makes
abbrev pub leaves : Faults → Answer EditedPolicy → List ℕ → Stock → List ℕ → (ℕ × List ℕ) × Stock
leaves faults answer bank k out =
    (handed slot_bytes faults answer out, unless faults (λ f. k) (stock (policy_after answer k.policy) bank))

abbrev policy_in : Stock → PolicySnapshot
policy_in k = policy_of k.policy

-- ---- `volankizo_live_add`, `_replace`, `_remove` and `_compact`

-- 22 for the record, 22, 23, 1, 2, 34, 4, 16, 27, 12, 28
abbrev pub add_call : Stock → List ℕ → List ℕ → (ℕ × List ℕ) × Stock
add_call k r out =
    leaves (offered r (stock_faults k (length out))) (add_of (policy_in k) k.bank r) (add_bank (policy_in k) k.bank r) k out

-- 22 for the record, 22, 23, 1, 2, 34, 4, 16, 27, 5
abbrev pub replace_call : Stock → List ℕ → List ℕ → (ℕ × List ℕ) × Stock
replace_call k r out =
    leaves (offered r (stock_faults k (length out))) (replace_of (policy_in k) k.bank r) (replace_bank (policy_in k) k.bank r) k out

-- 22, 23, 1, 2, 34, 4, 16, 27, 5
abbrev pub remove_call : Stock → ℕ → List ℕ → (ℕ × List ℕ) × Stock
remove_call k id out =
    leaves (stock_faults k (length out)) (remove_of (policy_in k) k.bank id) (remove_bank (policy_in k) k.bank id) k out

-- 22, 23, 1, 2, 34, 4, 27
abbrev pub compact_call : Stock → List ℕ → (ℕ × List ℕ) × Stock
compact_call k out =
    leaves (stock_faults k (length out)) (compact_of (policy_in k) k.bank) (compact_bank (policy_in k) k.bank) k out
