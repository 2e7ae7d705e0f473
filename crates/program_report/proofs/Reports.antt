-- Reports as they are put together, from what the calls below answer. Assumes nothing.
use Rattle.rules.proofs.Kit.{ℕ, ◌≡◌, sym, ap, ◌∙◌, refl, List, [], ◌∷◌, ◌++◌, append-nil, arith}
use Rattle.rules.specs.{Records.Listed, Records.listed_of, Refused.Fault, Refused.Faults, Refused.bank_faults, Refused.refused, Refused.answered, Refused.unless}
use Rattle.rules.specs.{Numbers.Decision, Numbers.told_decision, Numbers.DecisionAndTrace, Numbers.told_traced, Numbers.Boundary, Decide.decision_of}
use Rattle.rules.specs.{Decide.counts_in, Decide.traced_of, Decide.trace_of, Decide.prescribe_traced_of, Margin.margin_in, Margin.decision_margin_of, Levers.boundary_refused}
use Rattle.rules.specs.{Printed.decision_line, Printed.counts_line, Printed.lever_lines, Printed.entries_of, Printed.unit_report}
use Rattle.rules.specs.{declared.records.KernelInput.KernelInput, declared.records.PolicySnapshot.PolicySnapshot, declared.refusal.Refusal.Refusal}
use Rattle.rules.specs.{declared.decision.KernelDecision.KernelDecision, declared.decision.DecisionTrace.DecisionTrace}
use Rattle.rules.specs.{declared.decision.RejectionHistogram.RejectionHistogram}
use Rattle.rules.proofs.Faults.{some_fault}
use Rattle.stored_layout.proofs.Buffers.{none_answered}
use Rattle.std.specs.Prelude.{Result, Ok, Err, IsOk}

-- ---- the unit's report

-- Where nothing refuses, there is an answer
answered_ok : (t : Result (KernelDecision × DecisionTrace) Refusal) (fs : Faults) (a : DecisionAndTrace) → fs ≡ []
    → told_traced t ≡ unless fs refused (answered a) → IsOk t
answered_ok (Ok x) fs a n h = refl
answered_ok (Err r) [] a n h = let z : ◌≡◌ {A = ℕ} 0 1 = cc in absurd (omega arith)
answered_ok (Err r) (f ∷ fs) a n h = some_fault n

module _ (p : PolicySnapshot) (q : KernelInput) (bank : List ℕ) (t : Result (KernelDecision × DecisionTrace) Refusal)
    (h : told_traced t ≡ prescribe_traced_of p q bank) where
  -- A bank of whole records is decided
  pub traced-ok : bank_faults bank ≡ [] → IsOk t
  unfolding prescribe_traced_of
  traced-ok n = answered_ok t (bank_faults bank) (traced_of p q (listed_of bank)) n h

  module _ {x : KernelDecision × DecisionTrace} (e : t ≡ Ok x) where
    told : traced_of p q (listed_of bank) ≡ record { decision = told_decision x.0; trace = x.1 }
    unfolding prescribe_traced_of
    told = (none_answered (bank_faults bank) (traced_of p q (listed_of bank)) _ (sym h ∙ ap told_traced e)).1

    pub traced-decision : told_decision x.0 ≡ decision_of p q (listed_of bank)
    traced-decision = sym (ap (λ (y : DecisionAndTrace). y.decision) told)

    pub traced-counts : x.1.rejections ≡ counts_in p q (listed_of bank)
    unfolding trace_of
    traced-counts = sym (ap (λ (y : DecisionAndTrace). y.trace.rejections) told)

pub margin_told : {b : Boundary} (p : PolicySnapshot) (q : KernelInput) (bank : List ℕ) → bank_faults bank ≡ [] → b ≡ decision_margin_of p q bank
    → b ≡ margin_in p q (listed_of bank)
unfolding decision_margin_of
margin_told {b} p q bank n h = h ∙ rw n

-- THE THREE PARTS are the report
pub report_joins : {d : Decision} {c : RejectionHistogram} {b : Boundary} (p : PolicySnapshot) (q : KernelInput) (ls : List Listed)
    → d ≡ decision_of p q ls → c ≡ counts_in p q ls → b ≡ margin_in p q ls
    → decision_line d ++ counts_line c ++ lever_lines (entries_of b) ≡ unit_report p q ls
unfolding unit_report
report_joins p q ls e f g = λ i. decision_line (e i) ++ counts_line (f i) ++ lever_lines (entries_of (g i))

-- AND THE FIRST TWO ALONE where the margin is refused, which has no levers
pub refused_joins : {d : Decision} {c : RejectionHistogram} (f : Fault) (p : PolicySnapshot) (q : KernelInput) (ls : List Listed)
    → d ≡ decision_of p q ls → c ≡ counts_in p q ls → boundary_refused f ≡ margin_in p q ls → decision_line d ++ counts_line c ≡ unit_report p q ls
unfolding lever_lines
refused_joins f p q ls e g h = sym (append-nil _) ∙ report_joins p q ls e g h
