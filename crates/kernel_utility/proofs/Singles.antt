-- One model's utility, by a scan of its record alone. Assumes nothing.
use Rattle.rules.proofs.Kit.{ℕ, ◌+◌, ◌-◌, ◌*◌, ◌/◌, ◌<◌, ◌≤◌, arith, ◌≡◌, refl, sym, ap, ◌∙◌, Bool, true, false, cond, List, [], ◌∷◌, eqb-true, eqb, length}
use Rattle.rules.proofs.Kit.{take, drop, length-drop, length-take-le}
use Rattle.rules.specs.{Choice.equal, Records.listed, Records.model_at, Refused.fault, Refused.refused, Refused.answered, Verdict.judge, Verdict.judged}
use Rattle.rules.specs.{Verdict.verdict_of, Order.sorted_by, Rank.candidate_of, Rank.better, Rank.ranking, Count.counts_from, Count.counts_of, Decide.if_eligible}
use Rattle.rules.specs.{declared.records.KernelModel.KernelModel, declared.records.KernelInput.KernelInput, declared.records.PolicySnapshot.PolicySnapshot}
use Rattle.pricing.specs.{Pricing.pricing_of, declared.Pricing.Pricing}
use Rattle.kernel_ranking.specs.{State.held_of, State.top_of, State.state_of, State.start_of, After.scan_of, declared.state.State.State}
use Rattle.kernel_scan.specs.{Scan.Room, Places.placed_from}
use Rattle.kernel_utility.specs.Single.{worth_from}
use Rattle.kernel_scan.proofs.Places.{placed_one}
use Rattle.kernel_ranking.proofs.{States.verdict-worth, States.run-start, Verdicts.scan_run}
use Rattle.kernel_decide.proofs.Decisions.{score_back}

-- THE STATE AFTER ONE RECORD TELLS ITS UTILITY, OR THAT IT IS NOT ELIGIBLE
module _ (p : PolicySnapshot) (q : KernelInput) (place : ℕ) (m : KernelModel) where
  single_worth : worth_from (state_of (judged p q (listed place m ∷ []))) ≡ if_eligible (verdict_of p q m)
  unfolding worth_from state_of ranking equal held_of
  single_worth = go (eqb (verdict_of p q m).kind 4) refl
    where
      go : (t : Bool) → eqb (verdict_of p q m).kind 4 ≡ t
          → worth_from (record {
            counts = counts_of (judged p q (listed place m ∷ []));
            top = top_of (sorted_by better (cond t (candidate_of (judge p q (listed place m)) ∷ []) []));
            eligible = length (cond t (candidate_of (judge p q (listed place m)) ∷ []) []);
          })
          ≡ cond t (answered (verdict_of p q m).utility) (refused (fault 7))
      go true e = ap answered (score_back (verdict_of p q m).utility (verdict-worth p q m _ (eqb-true _ _ e)))
      go false e = refl

-- the part that the code lends, from a position on
abbrev pub only : List ℕ → ℕ → List ℕ
only bank at = take (at + 47 - at) (drop at bank)

module _ (bank : List ℕ) (at : ℕ) (inside : at + 47 ≤ length bank) where
  only_is : only bank at ≡ take 47 (drop at bank)
  only_is = let e : at + 47 - at ≡ 47 = omega arith in ap (λ n. take n (drop at bank)) e

  only_length : length (only bank at) ≡ 47
  only_length = ap length only_is ∙ length-take-le 47 (drop at bank) (simp length-drop (omega arith))

  pub only_room : {s : State} (place : ℕ) → place < length bank / 47 → s ≡ start_of → length bank / 47 ≤ 65535 → Room (length (only bank at)) place s
  unfolding state_of counts_of counts_from
  only_room place there e h = rw (only_length, e) (record { places = omega arith; counts = omega arith })

module _ (bank : List ℕ) (place : ℕ) (inside : 47 * place + 47 ≤ length bank) where
  pub only_worth : (p : PolicySnapshot) (q : KernelInput) {pr : Pricing} {from s : State} → pr ≡ pricing_of p q → from ≡ start_of
      → s ≡ scan_of pr q from (placed_from place (only bank (47 * place))) → worth_from s ≡ if_eligible (verdict_of p q (model_at bank place))
  only_worth p q {pr} {from} {s} priced start run =
      let at : ℕ = 47 * place in
      let l = listed place (model_at bank place) in
      let o : placed_from place (only bank at) ≡ l ∷ [] = ap (placed_from place) (only_is bank at inside)
      ∙ placed_one place (take 47 (drop at bank)) (sym (ap length (only_is bank at inside)) ∙ only_length bank at inside) in
      let e : s ≡ state_of (judged p q (l ∷ [])) = run ∙ rw (priced, start, o) (scan_run p q start_of (l ∷ []) ∙ run-start p q (l ∷ [])) in
      rw e (single_worth p q place (model_at bank place))
