-- What opens a live call: what its tests tell, and what a call that passed them may count on. Assumes nothing.
use Rattle.rules.proofs.Kit.{ℕ, ◌≤◌, ◌≡◌, refl, [], ◌++◌, length}
use Rattle.rules.specs.{Limits.request_bytes, Stored.policy_size_faults, Refused.Faults, Refused.first_fault, Refused.told_outcome, Refused.size_faults}
use Rattle.rules.specs.{Refused.unless, Refused.refused, Refused.answered, Numbers.told_number, Slots.live_faults, Slots.live_in}
use Rattle.rules.specs.{declared.refusal.Refusal.Refusal, declared.refusal.Refusal.TheVariants.WrongLength}
use Rattle.std.specs.Prelude.{Result, Ok, Err, IsErrAnd}
use Rattle.rules.proofs.Faults.{none_first, append_refused, exit_answer}
use Rattle.live_slots.specs.{Among.Among, Among.among_of}
use Rattle.live_slots.proofs.{Told.number_passed, Among.live-read, Among.live-among}
use Rattle.export_checks.specs.Checks.{Lent}
use Rattle.export_checks.proofs.Tests.{size-other, then-room, after-policy, after-lent, after-request, after-rest}
use Rattle.export_live_checks.specs.LiveChecks.{live_call_faults}

-- WHAT A `?` HANDS ON is the first fault, whatever is tested after it
pub exit_number : (r : Result ℕ Refusal) (k : Refusal) (fs gs : Faults) (n : ℕ) → IsErrAnd r (λ e. e ≡ k) → told_outcome (Err k) ≡ first_fault fs
    → told_number r ≡ unless (fs ++ gs) refused (answered n)
exit_number r k fs gs n h told = exit_answer (λ m. m) r k (fs ++ gs) (answered n) h (append_refused fs gs refl told)

-- ANOTHER LENGTH than its own, before other tests, is 22
pub size_refused : (have want : ℕ) (fs : Faults) → (have ≡ want → ⊥) → told_outcome (Err WrongLength) ≡ first_fault (size_faults have want ++ fs)
unfolding told_outcome first_fault
size_refused have want fs h = rw (size-other have want h)

-- ---- what a call that passed them may count on

-- Nothing refuses it, its buffers are long enough, and so many of its records are read as are live
pub record Passed (l : Lent) (needed room many : ℕ) : Type 0 where
  pub clear : live_call_faults l needed room ≡ []
  pub policy : policy_size_faults l.policy ≡ []
  pub request : request_bytes ≤ length l.request
  pub space : needed ≤ room
  pub clean : live_faults l.bank ≡ []
  pub seen : Among many l.bank
  pub read : among_of many l.bank ≡ live_in l.bank

module _ (l : Lent) (needed room : ℕ) (many : ℕ) where
  reached : live_call_faults l needed room ≡ [] → many ≡ length (live_in l.bank) → Passed l needed room many
  unfolding live_call_faults
  reached e its =
      let bank = live_faults l.bank in
      let rest = after-rest l bank needed room e in
      let lending = after-lent l.policy bank needed room rest in
      let clean = none_first bank _ lending in
      record {
        clear = e;
        policy = after-policy l.policy bank needed room rest;
        request = after-request l bank needed room e;
        space = then-room bank needed room lending;
        clean = clean;
        seen = live-among l.bank clean many its;
        read = live-read l.bank clean many its;
      }

  pub passed : told_number (Ok many) ≡ unless (live_call_faults l needed room) refused (answered (length (live_in l.bank))) → Passed l needed room many
  passed told = let p = number_passed many _ _ told in reached p.0 p.1

  -- the same where more was tested
  pub passed-more : (gs : Faults) → told_number (Ok many) ≡ unless (live_call_faults l needed room ++ gs) refused (answered (length (live_in l.bank)))
      → Passed l needed room many
  passed-more gs told = let p = number_passed many _ _ told in reached (none_first _ gs p.0) p.1
