-- A pass, by what the others offer, is what the rules say of the bank with the lever at the value; and so is the decision through a view of the
-- lent bank. Assumes nothing.
use Rattle.rules.proofs.Kit.{ℕ, ◌<◌, ◌≡◌, refl, sym, ap, ◌∙◌, Bool, List, arith, length, set}
use Rattle.rules.specs.{Records.listed, Records.listed_of, Records.records_in, Refused.answered}
use Rattle.rules.specs.{Numbers.Decision, Decide.decision_of, Levers.lever_at, Levers.selects, Levers.decision_at, Levers.wins, View.with_model, View.view_of}
use Rattle.rules.specs.{declared.records.KernelModel.KernelModel, declared.decision.KernelDecision.KernelDecision, declared.refusal.Refusal.Refusal}
use Rattle.rules.specs.{Numbers.told_prescribed}
use Rattle.std.specs.Prelude.{Result, Ok, Err, IsOk}
use Rattle.call_checks.proofs.Finding.{found_at}
use Rattle.counterfactual_others.proofs.Offers.{selects-by-others}
use Rattle.counterfactual_pass.specs.{Asked.wins_by, Asked.wins_in, Asked.question_in, Asked.Stands, declared.pass.Asked.Asked}
use Rattle.pricing.specs.{Pricing.pricing_of, declared.Pricing.Pricing}
use Rattle.counterfactual_pass.proofs.Varied.{varied-at}

-- what is held of what is asked wins where that does
pub as_asked : (k : Asked) {a : Asked} {pr : Pricing} → (a ≡ k) × (pr ≡ pricing_of k.policy k.input) → (lever v : ℕ)
    → wins_by pr a.input a.model a.place a.id a.rival lever v ≡ wins_in k lever v
unfolding wins_in
as_asked k new lever v = λ i. let x = new.0 i in wins_by (new.1 i) x.input x.model x.place x.id x.rival lever v

module _ (k : Asked) (bank : List ℕ) (stands : Stands k bank) where
  inside : k.place < records_in (length bank)
  inside = (found_at bank k.id k.place stands.first).1

  decision-is : (lever v : ℕ) → decision_at (question_in k bank) lever v
      ≡ decision_of k.policy k.input (set (listed_of bank) k.place (listed k.place (lever_at lever v k.model)))
  unfolding decision_at question_in
  decision-is lever v = ap (decision_of k.policy k.input) (varied-at bank k.id (lever_at lever v k.model) k.place stands.first)

  -- WHAT WINS IN A SEARCH WINS BY THE RULES
  wins-at-value : (lever v : ℕ) → wins_in k lever v ≡ wins (question_in k bank) lever v
  unfolding wins_in wins_by wins question_in
  wins-at-value lever v =
      rw stands.best
      (sym (ap (selects k.id) (decision-is lever v)
      ∙ selects-by-others bank k.place inside k.policy k.input stands.free (lever_at lever v k.model) k.id))

  pub wins-so : (lever v : ℕ) {b : Bool} → b ≡ wins_in k lever v → b ≡ wins (question_in k bank) lever v
  wins-so lever v e = e ∙ wins-at-value lever v

  -- so that a search over the one is a search over the other
  pub same_test : (lever : ℕ) → wins_in k lever ≡ wins (question_in k bank) lever
  same_test lever = λ i v. wins-at-value lever v i

  -- ---- the decision over the bank

  module _ (m : KernelModel) where
    -- the view of such a bank decides
    decides : (place : ℕ) → view_of k.policy k.input bank place m ≡ answered (decision_of k.policy k.input (with_model (listed_of bank) place m))
    unfolding view_of
    decides place = rw stands.whole

    -- SO IT IS NEVER REFUSED, whichever record is varied
    pub pass-answers : (place : ℕ) (r : Result KernelDecision Refusal) → told_prescribed r ≡ view_of k.policy k.input bank place m → IsOk r
    pass-answers place (Ok d) e = refl
    pass-answers place (Err f) e = let h = e ∙ decides place in let z : ◌≡◌ {A = ℕ} 0 1 = cc in absurd (omega arith)

    -- AND ITS DECISION is the one at the value
    pub pass-decides : (lever v : ℕ) {d : Decision} → m ≡ lever_at lever v k.model → answered d ≡ view_of k.policy k.input bank k.place m
        → d ≡ decision_at (question_in k bank) lever v
    unfolding with_model
    pass-decides lever v {d} moved e =
        let h : answered d ≡ answered (decision_of k.policy k.input (with_model (listed_of bank) k.place m)) = e ∙ decides k.place in
        let same : d ≡ decision_of k.policy k.input (with_model (listed_of bank) k.place m) = cc in
        same ∙ rw (moved, decision-is lever v)
