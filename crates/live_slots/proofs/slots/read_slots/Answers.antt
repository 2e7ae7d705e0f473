-- `live_slots::read_slots` meets its contract. The loop's invariant: none of the slots passed is refused, and those passed and the live ones left are
-- the free ones counted and all that are live. Assumes nothing.
use Rattle.rules.proofs.Kit.{◌/◌, ◌<◌, ◌≡◌, refl, sym, ◌∙◌, arith, length}
use Rattle.rules.specs.{Records.record_part, Trust.records_of, Trust.id_of, Slots.slot_faults, Slots.live_faults}
use Rattle.rules.proofs.Faults.{append_refused, exit_answer, passed, bank_room}
use Rattle.live_slots.proofs.{Passed.live_passes, Passed.live_counts, Passed.free_passes, Passed.free_counts, Passed.free_refused}
use Rattle.live_slots.proofs.{Passed.slots_refuse, Passed.none_refused, Passed.all_counted}
use Rattle.live_slots.proofs.slots.read_slots.Goals as goal
use Rattle.live_slots.proofs.slots.read_slots.Goals.{then-id_at-eq0+else-not-is_clear, else-id_at-eq0}

pub returns-in_err-bank_outcome : goal.returns-in_err-bank_outcome
unfolding live_faults
returns-in_err-bank_outcome c =
    exit_answer _ _ _ _ _ c.from_residual.ensures.1 (append_refused _ (slot_faults (records_of c.args.bank.now)) refl c.in_err-bank_outcome.ensures)

pub returns-then-not-is_clear : goal.returns-then-not-is_clear
returns-then-not-is_clear c =
    let bank = c.args.bank.now in
    let l = c.loop-place in
    let below : l.place < length bank / 47 = omega arith in
    let bad = free_refused bank l.place below (sym c.id_at.ensures ∙ c.if-id_at-eq0.true) c.if-not-is_clear.ensures in
    rw (slots_refuse bank (passed _ c.in_ok-bank_outcome.ensures) ∙ l.invariant.passed ∙ bad)

pub loop-place-preserved : goal.loop-place-preserved
loop-place-preserved c =
    let bank = c.args.bank.now in
    let l = c.loop-place in
    elim c.if-id_at-eq0.branch [
      | then-id_at-eq0+else-not-is_clear t ↦
          let free : id_of (record_part bank l.place) ≡ 0 = sym c.id_at.ensures ∙ t.if-id_at-eq0.true in record {
            free = omega (arith, t.free-is);
            passed = l.invariant.passed ∙ free_passes bank l.place (omega arith) free t.if-not-is_clear.ensures;
            counted = omega (arith, t.free-is, free_counts bank l.place (omega arith) free);
          }
      | else-id_at-eq0 e ↦
          let live : id_of (record_part bank l.place) ≡ 0 → ⊥ = λ z. e.if-id_at-eq0.false (c.id_at.ensures ∙ z) in record {
            free = omega (arith, e.free-is);
            passed = l.invariant.passed ∙ live_passes bank l.place (omega arith) live;
            counted = omega (arith, e.free-is, live_counts bank l.place (omega arith) live);
          }
    ]

pub overflow_cast-result : goal.overflow_cast-result
overflow_cast-result c = omega (arith, bank_room _ refl c.in_ok-bank_outcome.ensures)

pub returns : goal.returns
returns c =
    let bank = c.args.bank.now in
    let l = c.loop-place in
    let none = slots_refuse bank (passed _ c.in_ok-bank_outcome.ensures) ∙ l.invariant.passed ∙ none_refused bank l.place (omega arith) in
    rw (none, all_counted bank l.place (omega arith) l.free l.invariant.counted)
