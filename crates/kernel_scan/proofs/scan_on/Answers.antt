-- `kernel_scan::scan_on` meets its contract. The loop's invariant: what is held is what the first i records come to, from the state at the start.
-- Assumes nothing.
use Rattle.rules.proofs.Kit.{ℕ, arith, ◌≡◌, refl, sym, ap, ◌∙◌}
use Rattle.pricing_terms.specs.declared.ScoredTerms.{ScoredTerms}
use Rattle.rules.specs.declared.records.KernelModel.{KernelModel}
use Rattle.kernel_verdict.specs.{Verdict.counted_of, declared.Verdict.Verdict}
use Rattle.kernel_verdict.specs.declared.Verdict.TheVariants.{Rejected, OverBudget, NonPositive, Eligible}
use Rattle.kernel_ranking.specs.{State.state_entered, After.state_after, declared.state.State.State}
use Rattle.kernel_scan.proofs.{Scanning.scan-held, Scanning.scan_step, Scanning.scan-end}
use Rattle.kernel_ranking.proofs.Verdicts.{scan-none}
use Rattle.kernel_scan.proofs.scan_on.Goals as goal

-- a verdict that is none of the last kind is counted, and nothing else
stays : (v : Verdict) (s : State) (place : ℕ) (m : KernelModel) → ((t : ScoredTerms) → v ≡ Eligible t → ⊥)
    → record { counts = counted_of s.counts v; top = s.top; eligible = s.eligible } ≡ state_after s place m v
unfolding state_after
stays (Rejected gate) s place m k = refl
stays (OverBudget cost) s place m k = refl
stays (NonPositive t) s place m k = refl
stays (Eligible t) s place m k = absurd (k t refl)

pub loop-i-init : goal.loop-i-init
loop-i-init c = sym (scan-none _ _ _)

pub counted-state-requires : goal.counted-state-requires
counted-state-requires c =
    let l = c.loop-i in
    omega (arith, scan-held _ _ _ _ _ _ _ l.invariant (omega arith))

pub loop-i-preserved-in_default : goal.loop-i-preserved-in_default
loop-i-preserved-in_default c =
    let l = c.loop-i in
    rw c.counted-state.ensures
    (stays _ _ _ _ c.in_default.not-Eligible ∙
    scan_step _ _ _ _ _ _ _ l.invariant _ _ c.loop-i-test.true c.model_at-model.ensures c.verdict_of-verdict.ensures)

pub overflow_add-state : goal.overflow_add-state
overflow_add-state c =
    let l = c.loop-i in
    omega (arith, scan-held _ _ _ _ _ _ _ l.invariant (omega arith))

pub loop-i-preserved : goal.loop-i-preserved
unfolding state_after state_entered
loop-i-preserved c =
    let l = c.loop-i in
    rw (c.ranked-state.ensures, c.entered.ensures)
    (ap (state_after _ _ _) (sym c.in-Eligible.is) ∙
    scan_step _ _ _ _ _ _ _ l.invariant _ _ c.loop-i-test.true c.model_at-model.ensures c.verdict_of-verdict.ensures)

pub returns : goal.returns
returns c = let l = c.loop-i in scan-end _ _ _ _ _ l.i _ l.invariant (omega arith)
