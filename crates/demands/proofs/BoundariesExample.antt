-- Demand 3 at document 01's example: the theorems' hypotheses are met, and what they say of rows (B) and (C). `OnceExample` has the same under a
-- policy that rounds once. Assumes nothing.
use Rattle.rules.proofs.Kit.{ℕ, ◌≤◌, ◌≡◌, refl, sym, ap, subst, ◌∙◌, true, false, List, [], ◌∷◌, ◌↔◌, some, none, Option·some-injective, arith}
use Rattle.rules.proofs.{Opened.rules, Example.bank, Example.policy, Example.request, Example.choice, Example.lever, Example.no_lever, Example.boundary}
use Rattle.rules.specs.{Choice.below, Choice.at_least, Choice.equal, Bytes.number, Records.Listed, Records.listed, Records.model_of, Records.model_at}
use Rattle.rules.specs.{Records.input_of, Records.policy_with, Records.policy_of, Records.listed_of, Refused.length_faults, Refused.bank_faults}
use Rattle.rules.specs.{Numbers.is_rejection}
use Rattle.rules.specs.{Numbers.Boundary, Price.cost_under, Decide.stopped_by, Decide.decision_of, Listing.first_listed, Levers.Question, Levers.selects, Phrases.tenths_up}
use Rattle.rules.specs.{Levers.decision_at, Levers.wins, Win.what_would_win_of, Margin.decision_margin_of, declared.records.KernelInput.KernelInput}
use Rattle.rules.specs.{declared.records.PolicySnapshot.PolicySnapshot}
use Rattle.demands.specs.{Standing.UniqueIds, Demand3.question, Demand3.of_lever, Demand3.entries_for, Demand3.Unselected, Demand3.SwitchedOn}
use Rattle.demands.specs.{Demand3.win_passes, Demand3.margin_passes, Demand3.WinExact, Demand3.MarginExact}
use Rattle.demands.proofs.{ToldPrice.told-fall-suffices, Winning.what_would_win_exact, Margins.decision_margin_exact, Passes.searched-passes, Passes.kept-passes}

-- document 01's policy and request
abbrev pub p : PolicySnapshot
p = policy_of policy

abbrev pub q : KernelInput
q = input_of request

abbrev pub ls : List Listed
ls = listed_of bank

-- what is asked about models 1 and 2, under a policy
abbrev pub about_one : PolicySnapshot → Question
about_one s = question (cost_under s) s q ls 1 (model_at bank 0)

abbrev pub about_two : PolicySnapshot → Question
about_two s = question (cost_under s) s q ls 2 (model_at bank 1)

-- ---- the hypotheses

no_fault_lem : bank_faults bank ≡ []
unfolding length_faults equal below
no_fault_lem = refl

unique : UniqueIds ls
unfolding listed_of model_of number
unique = (((λ e. omega arith), tt), (tt, tt))

is_on : SwitchedOn (model_at bank 0)
unfolding model_of number
is_on e = omega arith

pub first_is_two : first_listed 2 ls ≡ some (listed 1 (model_at bank 1))
unfolding first_listed equal listed_of model_of number
first_is_two = refl

-- ---- under any policy by which the example is decided as in document 01, however it rounds

module _ (s : PolicySnapshot) (runs_on : stopped_by s q ≡ 0) (decides : decision_of s q ls ≡ choice) where
  one-unselected : Unselected (cost_under s) s q ls 1 (listed 0 (model_at bank 0))
  unfolding selects first_listed equal listed_of model_of number
  one-unselected = record { listed = refl; runs_on = runs_on; not_selected = rw decides }

  pub exact_one : WinExact (what_would_win_of s q bank 1) (about_one s)
  exact_one = what_would_win_exact s q bank 1 (listed 0 (model_at bank 0)) no_fault_lem unique one-unselected is_on

  pub passes_one : win_passes (about_one s) ≡ (what_would_win_of s q bank 1).passes
  passes_one = sym (searched-passes s q bank 1 (listed 0 (model_at bank 0)) no_fault_lem one-unselected is_on)

  -- model 1 is selected at the price scales to its boundary and at no other to 1,000,000
  pub one-to-scale : (b cost : ℕ) → entries_for 3 (what_would_win_of s q bank 1) ≡ lever 3 1000000 b (some cost) ∷ [] → (decision_at (about_one s) 3 b).cost ≡ cost
      → (v : ℕ) → v ≤ 1000000 → (wins (about_one s) 3 v ≡ true) ↔ (v ≤ b)
  one-to-scale b cost e c v h = (exact_one.price.exact b (rw c e)).exactly v ((omega arith), h)

  executed : is_rejection (decision_of s q ls) ≡ false
  executed = rw decides

  chosen-is-two : (decision_of s q ls).model ≡ 2
  chosen-is-two = rw decides

  -- the record that is varied is the one at place 1
  pub exact_two : MarginExact (decision_margin_of s q bank) (about_two s)
  exact_two =
      let c = decision_margin_exact s q bank no_fault_lem unique executed in
      let same = Option·some-injective c.varied (listed 1 (model_at bank 1)) (sym c.first ∙ ap (λ id. first_listed id ls) chosen-is-two ∙ first_is_two) in
      subst (λ id. MarginExact (decision_margin_of s q bank) (question (cost_under s) s q ls id (model_at bank 1))) chosen-is-two
      (subst (λ l. MarginExact (decision_margin_of s q bank) (question (cost_under s) s q ls (decision_of s q ls).model l.model)) same c.exact)

  pub passes_two : margin_passes (about_two s) ≡ (decision_margin_of s q bank).passes
  passes_two =
      ap (λ id. margin_passes (question (cost_under s) s q ls id (model_at bank 1))) (sym chosen-is-two)
      ∙ sym (kept-passes s q bank (listed 1 (model_at bank 1)) no_fault_lem executed (rw chosen-is-two first_is_two))

  -- model 2 stays chosen at the price scales from 1,000,000 to its boundary and at no higher one
  pub two-to-scale : (b cost : ℕ) → entries_for 3 (decision_margin_of s q bank) ≡ lever 3 1000000 b (some cost) ∷ [] → (decision_at (about_two s) 3 b).cost ≡ cost
      → (v : ℕ) → 1000000 ≤ v → v ≤ 1000000000 → (wins (about_two s) 3 v ≡ true) ↔ (v ≤ b)
  two-to-scale b cost e c v h k = (exact_two.price.exact b (rw c e)).exactly v (h, k)

-- ---- (B) what would win for model 1, under document 01's policy

pub goes_on : stopped_by p q ≡ 0
unfolding stopped_by at_least below number input_of policy_with policy_of
goes_on = refl

pub decides_two : decision_of p q ls ≡ choice
unfolding rules
decides_two = refl

abbrev one : Question
one = about_one p

exact_B : WinExact (what_would_win_of p q bank 1) one
exact_B = exact_one p goes_on decides_two

row_B : what_would_win_of p q bank 1 ≡ boundary 1 choice false (lever 3 1000000 443333 (some 798) ∷ no_lever ∷ no_lever ∷ no_lever ∷ []) 1 26
unfolding rules
row_B = refl

-- the cost that the price's entry carries is the decision's there
cost_there : (decision_at one 3 443333).cost ≡ 798
unfolding rules
cost_there = refl

-- Of all price scales to 1,000,000, model 1 is selected at those to 443,333 and at no other
one_by_price : (v : ℕ) → v ≤ 1000000 → (wins one 3 v ≡ true) ↔ (v ≤ 443333)
unfolding of_lever equal
one_by_price = one-to-scale p goes_on decides_two 443333 798 (ap (entries_for 3) row_B) cost_there

-- and it is after the fall by 55.7 percent that the desk is told, to 44.3 percent
one_after_the_fall : wins one 3 443000 ≡ true
unfolding of_lever equal tenths_up
one_after_the_fall = told-fall-suffices exact_B 443333 (rw cost_there (ap (entries_for 3) row_B))

-- and at no quality from 9,000 to 10,000: equal utility at higher cost loses
one_not_by_quality : (v : ℕ) → 9000 ≤ v → v ≤ 10000 → wins one 1 v ≡ false
unfolding of_lever equal model_of number
one_not_by_quality v h k = exact_B.quality.missing.0 (ap (entries_for 1) row_B) v (h, k)

-- at no latency to 100 ms, and at no ceiling from 8,000 to 10,000
one_not_by_latency : (v : ℕ) → v ≤ 100 → wins one 2 v ≡ false
unfolding of_lever equal model_of number
one_not_by_latency v h = exact_B.latency.missing.0 (ap (entries_for 2) row_B) v ((omega arith), h)

one_not_by_ceiling : (v : ℕ) → 8000 ≤ v → v ≤ 10000 → wins one 4 v ≡ false
unfolding of_lever equal model_of number
one_not_by_ceiling v h k = exact_B.ceiling.missing.0 (ap (entries_for 4) row_B) v (h, k)

-- the 26 passes are the halvings' own
passes_B : win_passes one ≡ 26
passes_B = passes_one p goes_on decides_two ∙ ap (λ (b : Boundary). b.passes) row_B

-- ---- (C) the margin of model 2

abbrev two : Question
two = about_two p

row_C : decision_margin_of p q bank
    ≡ boundary 2 choice false (lever 1 8000 7000 none ∷ lever 2 50 150 none ∷ lever 3 1000000 4330000 (some 1299) ∷ lever 4 8000 1000 none ∷ []) 4 95
unfolding rules
row_C = refl

exact_C : MarginExact (decision_margin_of p q bank) two
exact_C = exact_two p goes_on decides_two

scaled_cost : (decision_at two 3 4330000).cost ≡ 1299
unfolding rules
scaled_cost = refl

-- Model 2 stays chosen at the qualities from 7,000 to 8,000 and at no lower one
two_by_quality : (v : ℕ) → v ≤ 8000 → (wins two 1 v ≡ true) ↔ (7000 ≤ v)
unfolding of_lever equal model_of number
two_by_quality v h = (exact_C.quality.exact 7000 (ap (entries_for 1) row_C)).exactly v ((omega arith), h)

-- at the latencies from 50 to 150 ms and at no higher one
two_by_latency : (v : ℕ) → 50 ≤ v → v ≤ 4294967295 → (wins two 2 v ≡ true) ↔ (v ≤ 150)
unfolding of_lever equal model_of number
two_by_latency v h k = (exact_C.latency.exact 150 (ap (entries_for 2) row_C)).exactly v (h, k)

-- at the price scales from 1,000,000 to 4,330,000 and at no higher one
two_by_price : (v : ℕ) → 1000000 ≤ v → v ≤ 1000000000 → (wins two 3 v ≡ true) ↔ (v ≤ 4330000)
unfolding of_lever equal
two_by_price = two-to-scale p goes_on decides_two 4330000 1299 (ap (entries_for 3) row_C) scaled_cost

-- and at the ceilings from 1,000 to 8,000 and at no lower one
two_by_ceiling : (v : ℕ) → v ≤ 8000 → (wins two 4 v ≡ true) ↔ (1000 ≤ v)
unfolding of_lever equal model_of number
two_by_ceiling v h = (exact_C.ceiling.exact 1000 (ap (entries_for 4) row_C)).exactly v ((omega arith), h)

-- and the margin's 95 passes are the halvings' own
passes_C : margin_passes two ≡ 95
passes_C = passes_two p goes_on decides_two ∙ ap (λ (b : Boundary). b.passes) row_C
