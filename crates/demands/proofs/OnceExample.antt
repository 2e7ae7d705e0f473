-- Demand 3 at document 01's example under a policy that rounds once: it is decided as in document 01, and both price boundaries are further out. And
-- what `Rounding` says of a policy that rounds apart, at the example's own. Assumes nothing.
use Rattle.rules.proofs.Kit.{ℕ, ◌+◌, ◌≤◌, ◌≡◌, refl, sym, ap, ◌∙◌, true, false, [], ◌∷◌, ◌++◌, ◌↔◌, some, none, le_refl}
use Rattle.rules.proofs.{Opened.rules, Example.bank, Example.policy, Example.choice, Example.lever, Example.no_lever, Example.boundary}
use Rattle.rules.specs.{Choice.below, Choice.at_least, Choice.equal, Bytes.number, Records.input_of, Records.policy_with, Records.policy_of, Records.model_at}
use Rattle.rules.specs.{Numbers.Boundary}
use Rattle.rules.specs.{Decide.stopped_by, Decide.decision_of, Levers.Question, Levers.decision_at, Levers.wins, Win.what_would_win_of, Margin.decision_margin_of}
use Rattle.rules.specs.{declared.records.PolicySnapshot.PolicySnapshot}
use Rattle.demands.specs.Demand3.{of_lever, entries_for, win_passes, margin_passes}
use Rattle.rules.specs.declared.records.Rounding.TheVariants.{Apart, Once}
use Rattle.rules.specs.{Price.cost_of, Price.cost_under, Verdict.judged, Verdict.judged_by, Decide.decision_by, Win.win_by, Margin.margin_by}
use Rattle.demands.specs.Rounding.{apart_cost}
use Rattle.demands.proofs.Rounding.{apart-costs, apart-judges, apart-decides, apart-wins, apart-keeps, thirty_say_apart, once-at-most-apart}
use Rattle.demands.proofs.Rounding.{apart-at-most-one-more}
use Rattle.demands.proofs.BoundariesExample.{q, ls, about_one, about_two, passes_one, one-to-scale, passes_two, two-to-scale}

-- document 01's policy with a 31st byte of 1
abbrev p : PolicySnapshot
p = policy_of (policy ++ (1 ∷ []))

goes_on : stopped_by p q ≡ 0
unfolding stopped_by at_least below number input_of policy_with policy_of
goes_on = refl

-- every product of the example is whole, so that nothing changes as things stand
decides_two : decision_of p q ls ≡ choice
unfolding rules
decides_two = refl

-- ---- (B) what would win for model 1

abbrev one : Question
one = about_one p

row_B : what_would_win_of p q bank 1 ≡ boundary 1 choice false (lever 3 1000000 443888 (some 799) ∷ no_lever ∷ no_lever ∷ no_lever ∷ []) 1 26
unfolding rules
row_B = refl

cost_there : (decision_at one 3 443888).cost ≡ 799
unfolding rules
cost_there = refl

-- Of all price scales to 1,000,000, model 1 is selected at those to 443,888 and at no other
one_by_price : (v : ℕ) → v ≤ 1000000 → (wins one 3 v ≡ true) ↔ (v ≤ 443888)
unfolding of_lever equal
one_by_price = one-to-scale p goes_on decides_two 443888 799 (ap (entries_for 3) row_B) cost_there

-- the 26 passes are the halvings' own
passes_B : win_passes one ≡ 26
passes_B = passes_one p goes_on decides_two ∙ ap (λ (b : Boundary). b.passes) row_B

-- ---- (C) the margin of model 2

abbrev two : Question
two = about_two p

row_C : decision_margin_of p q bank
    ≡ boundary 2 choice false (lever 1 8000 7000 none ∷ lever 2 50 150 none ∷ lever 3 1000000 4333333 (some 1300) ∷ lever 4 8000 1000 none ∷ []) 4 95
unfolding rules
row_C = refl

scaled_cost : (decision_at two 3 4333333).cost ≡ 1300
unfolding rules
scaled_cost = refl

-- Model 2 stays chosen at the price scales from 1,000,000 to 4,333,333 and at no higher one
two_by_price : (v : ℕ) → 1000000 ≤ v → v ≤ 1000000000 → (wins two 3 v ≡ true) ↔ (v ≤ 4333333)
unfolding of_lever equal
two_by_price = two-to-scale p goes_on decides_two 4333333 1300 (ap (entries_for 3) row_C) scaled_cost

-- and the margin's 95 passes are the halvings' own
passes_C : margin_passes two ≡ 95
passes_C = passes_two p goes_on decides_two ∙ ap (λ (b : Boundary). b.passes) row_C

-- ---- what was, stays: document 01's policy has 30 bytes, and everything is by its cost

abbrev before : PolicySnapshot
before = policy_of policy

rounds_apart : before.rounding ≡ Apart
rounds_apart = thirty_say_apart policy (le_refl 30)

costs_apart : cost_under before ≡ apart_cost
costs_apart = apart-costs before q ls rounds_apart

judges_apart : judged before q ls ≡ judged_by apart_cost before q ls
judges_apart = apart-judges before q ls rounds_apart

decides_apart : decision_by apart_cost before q ls ≡ choice
unfolding rules
decides_apart = sym (apart-decides before q ls rounds_apart)

wins_apart : win_by apart_cost before q ls 1 ≡ boundary 1 choice false (lever 3 1000000 443333 (some 798) ∷ no_lever ∷ no_lever ∷ no_lever ∷ []) 1 26
unfolding rules
wins_apart = sym (apart-wins before q ls rounds_apart 1)

keeps_apart : (margin_by apart_cost before q ls).passes ≡ 95
unfolding rules
keeps_apart = ap (λ (b : Boundary). b.passes) (sym (apart-keeps before q ls rounds_apart))

-- ---- the two costs beside each other, of model 1 for the example's request

at_most_apart : cost_of Once (model_at bank 0) q ≤ cost_of Apart (model_at bank 0) q
at_most_apart = once-at-most-apart (model_at bank 0) q

at_most_one_more : cost_of Apart (model_at bank 0) q ≤ cost_of Once (model_at bank 0) q + 1
at_most_one_more = apart-at-most-one-more (model_at bank 0) q
