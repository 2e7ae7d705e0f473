-- A scan over a part of a bank: one turn, and its start. Assumes nothing.
use Rattle.rules.proofs.Kit.{ℕ, ◌+◌, ◌/◌, ◌<◌, ◌≤◌, add-one, arith, ◌≡◌, sym, ap, ◌∙◌, List, length, take, take-length, take-suc, length-take-le}
use Rattle.rules.specs.{Records.model_at, Count.counts_from, Count.counts_of, Count.total, declared.records.KernelModel.KernelModel}
use Rattle.rules.specs.{declared.records.KernelInput.KernelInput}
use Rattle.pricing.specs.declared.Pricing.{Pricing}
use Rattle.kernel_verdict.specs.{Verdict.verdict_in, declared.Verdict.Verdict}
use Rattle.kernel_ranking.specs.{State.state_of, State.start_of, After.state_after, After.scan_of, declared.state.State.State}
use Rattle.kernel_scan.specs.{Scan.Room, Places.placed_from}
use Rattle.kernel_scan.proofs.Places.{length-placed, get_d_placed}
use Rattle.bank.proofs.Listing.{nowhere}
use Rattle.kernel_ranking.proofs.Verdicts.{scan-append, scan-one, scan-sum}

-- s is what the first i records of the part come to
module _ (pr : Pricing) (q : KernelInput) (from : State) (first : ℕ) (part : List ℕ) (i : ℕ) (s : State)
    (es : s ≡ scan_of pr q from (take i (placed_from first part))) where
  pub scan-held : i ≤ length part / 47 → total s.counts + s.eligible ≡ total from.counts + from.eligible + i
  scan-held h =
      let k : i ≤ length (placed_from first part) = rw length-placed h in
      rw es (scan-sum pr q from (take i (placed_from first part)) ∙ rw (length-take-le i (placed_from first part) k))

  -- ONE TURN
  pub scan_step : (m : KernelModel) (v : Verdict) → i < length part / 47 → m ≡ model_at part i → v ≡ verdict_in pr q m
      → state_after s (first + i) m v ≡ scan_of pr q from (take (i + 1) (placed_from first part))
  scan_step m v h em ev =
      let k : i < length (placed_from first part) = rw length-placed h in
      rw (ev, em, es, add-one, take-suc (placed_from first part) i nowhere k, scan-append, scan-one, get_d_placed first part i nowhere h)

  pub scan-end : i ≡ length part / 47 → s ≡ scan_of pr q from (placed_from first part)
  scan-end e = es ∙ ap (scan_of pr q from) (rw (e ∙ sym (length-placed first part), take-length))

-- ---- the start

-- Before the first record there is room for a whole bank
pub start_room : (bytes : ℕ) {s : State} → s ≡ start_of → bytes / 47 ≤ 65535 → Room bytes 0 s
unfolding state_of counts_of counts_from
start_room bytes e h = rw e (record { places = omega arith; counts = omega arith })
