-- `live_compact::closed` meets its contract. Assumes nothing.
use Rattle.rules.proofs.Kit.{ℕ, ◌+◌, ◌≡◌, sym, ap, ◌∙◌, arith}
use Rattle.rules.specs.{Records.record_part, Trust.id_of}
use Rattle.live_compact.proofs.{Gaps.partly_first, Gaps.count_first, Gaps.free-next, Gaps.live-next, Gaps.live-count}
use Rattle.live_compact.proofs.{Gaps.closed_last}
use Rattle.live_compact.proofs.closing.closed.Goals as goal
use Rattle.live_compact.proofs.closing.closed.Goals.{then-id_at-ne-FREE, else-id_at-ne-FREE}

pub loop-i-init : goal.loop-i-init
loop-i-init c = record { fewer = omega arith; counted = count_first _; closed = partly_first _ }

pub loop-i-preserved : goal.loop-i-preserved
loop-i-preserved c =
    let l = c.loop-i in
    elim c.if-id_at-ne-FREE.branch [
      | then-id_at-ne-FREE w ↦
          let live : id_of (record_part l.bank l.i) ≡ 0 → ⊥ = λ z. w.if-id_at-ne-FREE.true (c.id_at.ensures ∙ z) in record {
            fewer = omega (arith, w.live-is);
            counted = w.live-is ∙ ap (λ (k : ℕ). k + 1) l.invariant.counted ∙ live-count _ l.i (omega arith) (omega arith) _ l.invariant.closed live;
            closed = w.bank-is ∙ live-next _ l.i (omega arith) (omega arith) _ l.invariant.closed live _ _ l.invariant.counted w.moved.ensures;
          }
      | else-id_at-ne-FREE w ↦
          let f = free-next _ l.i (omega arith) _ l.invariant.closed (sym c.id_at.ensures ∙ w.if-id_at-ne-FREE.false) in
          record { fewer = omega (arith, w.live-is); counted = w.live-is ∙ l.invariant.counted ∙ f.1; closed = w.bank-is ∙ f.0 }
    ]

pub returns : goal.returns
returns c =
    let l = c.loop-i in
    let e = closed_last c.args.bank.now l.i (omega arith) in
    record { live = l.invariant.counted ∙ e.0; exit = l.invariant.closed ∙ e.1 }
