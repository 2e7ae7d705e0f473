-- Demand 3 at document 01's models under an allowance of 60 ms, where boundaries of latency fall on it: up to 60 ms nothing is charged, so that nothing
-- changes. And what `Allowance` says, at the example's own policy and at this one. Assumes nothing.
use Rattle.rules.proofs.Kit.{ℕ, ◌≤◌, ◌≡◌, refl, sym, ap, ◌∙◌, true, false, List, [], ◌∷◌, ◌++◌, ◌↔◌, none, some, arith, le_refl, lit≤, le_z, pos}
use Rattle.rules.proofs.{Opened.rules, AllowanceRows.allowing, AllowanceRows.late, Example.model_one, Example.model_two, Example.bank, Example.policy}
use Rattle.rules.proofs.{Example.with, Example.choice, Example.decision, Example.lever, Example.no_lever, Example.boundary}
use Rattle.rules.specs.{Bytes.bytes_of, Bytes.number, Choice.equal, Records.Listed, Records.listed, Records.model_of, Records.model_at, Records.policy_with}
use Rattle.rules.specs.{Records.policy_of, Records.listed_of, Numbers.Decision, Numbers.is_rejection, Price.cost_under, Utility.latency_term_of}
use Rattle.rules.specs.{Utility.utility_of, Verdict.judged, Decide.decision_of, Listing.first_listed, Levers.Question, Levers.wins, Win.win_in, Margin.margin_in}
use Rattle.rules.specs.{declared.records.KernelModel.KernelModel, declared.records.PolicySnapshot.PolicySnapshot}
use Rattle.demands.specs.{Allowance.term_in_full, Allowance.judged_in_full, Allowance.decision_in_full, Allowance.wins_in_full}
use Rattle.demands.specs.{Standing.UniqueIds, Demand3.question, Demand3.of_lever, Demand3.entries_for, Demand3.Unselected, Demand3.SwitchedOn}
use Rattle.demands.specs.{Demand3.WinExact, Demand3.MarginExact, Demand3.MarginOfChoice}
use Rattle.demands.proofs.{Allowance.none_is, Allowance.none-judges, Allowance.none-decides, Allowance.none-wins, Allowance.thirty_say_none}
use Rattle.demands.proofs.{Allowance.thirty_one_say_none, Allowance.free-up-to, Allowance.charged-above, Allowance.at-most-in-full}
use Rattle.demands.proofs.{Allowance.more-free-more-worth, Rounding.cost_rises, Winning.win-exact, Margins.keep-exact}
use Rattle.demands.proofs.{Margins.choice-exact, BoundariesExample.q, BoundariesExample.ls, BoundariesExample.about_one}
use Rattle.demands.proofs.{BoundariesExample.decides_two}

-- document 01's policy, 60 ms of each latency free of its 10 microunits a millisecond
abbrev p : PolicySnapshot
p = policy_of (allowing 60 policy)

-- model 1 with a quality of 9,501, by which it is worth one microunit more than model 2 where neither is charged for latency; and beside model 2
abbrev one_at : ℕ → List ℕ
one_at ms = late ms (with 6 (bytes_of 2 9501) model_one)

abbrev bank_at : ℕ → List ℕ
bank_at ms = one_at ms ++ model_two

unique_ids : (ms : ℕ) → UniqueIds (listed_of (bank_at ms))
unfolding rules
unique_ids ms = (((λ e. omega arith), tt), (tt, tt))

-- ---- what would win for model 1 of 300 ms: a latency within the allowance, and nothing else

abbrev slow : List Listed
slow = listed_of (bank_at 300)

abbrev one : Question
one = question (cost_under p) p q slow 1 (model_at (bank_at 300) 0)

abbrev chooses_two : Decision
chooses_two = decision 42 2 2 2 1 300 (pos 6700) 1 (pos 4301) 2 2 7 3

unselected : Unselected (cost_under p) p q slow 1 (listed 0 (model_at (bank_at 300) 0))
unfolding rules
unselected = record { listed = refl; runs_on = refl; not_selected = refl }

is_on : SwitchedOn (model_at (bank_at 300) 0)
unfolding rules
is_on e = omega arith

exact_one : WinExact (win_in p q slow 1) one
exact_one = win-exact (cost_under p) p q slow 1 (listed 0 (model_at (bank_at 300) 0)) unselected (cost_rises p.rounding)
    (unique_ids 300) is_on

row : win_in p q slow 1 ≡ boundary 1 chooses_two false (lever 2 300 60 none ∷ no_lever ∷ no_lever ∷ no_lever ∷ []) 1 13
unfolding rules
row = refl

-- Of all latencies to 300 ms, model 1 is selected at those to 60, the allowance itself, and at no other: at each below it the utilities are the same
one_by_latency : (v : ℕ) → v ≤ 300 → (wins one 2 v ≡ true) ↔ (v ≤ 60)
unfolding rules of_lever
one_by_latency v h = (exact_one.latency.exact 60 (ap (entries_for 2) row)).exactly v ((omega arith), h)

-- with none free it would have to be as fast as model 2, at 50 ms
before_by_latency : entries_for 2 (win_in (policy_of policy) q slow 1) ≡ lever 2 300 50 none ∷ []
unfolding rules of_lever
before_by_latency = refl

-- and no price, however low, selects it
one_not_by_price : (v : ℕ) → v ≤ 1000000 → wins one 3 v ≡ false
unfolding of_lever equal
one_not_by_price v h = exact_one.price.missing.0 (ap (entries_for 3) row) v ((omega arith), h)

-- ---- the margin of model 1 of 20 ms, which is chosen: its latency may rise to the allowance

abbrev quick : List Listed
quick = listed_of (bank_at 20)

abbrev chosen : Question
chosen = question (cost_under p) p q quick (decision_of p q quick).model (model_at (bank_at 20) 0)

executed : is_rejection (decision_of p q quick) ≡ false
unfolding rules
executed = refl

first_is_one : first_listed (decision_of p q quick).model quick ≡ some (listed 0 (model_at (bank_at 20) 0))
unfolding rules
first_is_one = refl

exact_chosen : MarginExact (margin_in p q quick) chosen
exact_chosen = keep-exact (cost_under p) p q quick executed (listed 0 (model_at (bank_at 20) 0)) first_is_one (cost_rises p.rounding) (unique_ids 20)

entry-chosen : entries_for 2 (margin_in p q quick) ≡ lever 2 20 60 none ∷ []
unfolding rules of_lever
entry-chosen = refl

-- It stays chosen at the latencies from 20 to 60 ms and at no higher one
chosen_by_latency : (v : ℕ) → 20 ≤ v → v ≤ 4294967295 → (wins chosen 2 v ≡ true) ↔ (v ≤ 60)
unfolding bytes_of model_of number
chosen_by_latency v h k = (exact_chosen.latency.exact 60 entry-chosen).exactly v (h, k)

-- and the record that is varied is the chosen one, at place 0
of_choice : MarginOfChoice (cost_under p) p q quick (margin_in p q quick)
of_choice = choice-exact (cost_under p) p q quick executed (cost_rises p.rounding) (unique_ids 20)

varied_at_0 : of_choice.varied.place ≡ 0
unfolding rules
varied_at_0 = of_choice.place

-- ---- what was, stays: document 01's policy has 30 bytes, and one that says how it rounds 31; neither has an allowance

abbrev before : PolicySnapshot
before = policy_of policy

no_allowance : before.latency_allowance_ms ≡ 0
no_allowance = thirty_say_none policy (le_refl 30)

none_in_31 : (policy_of (policy ++ (1 ∷ []))).latency_allowance_ms ≡ 0
none_in_31 = thirty_one_say_none (policy ++ (1 ∷ [])) (le_refl 31)

judges_in_full : judged before q ls ≡ judged_in_full (cost_under before) before q ls
judges_in_full = none-judges before no_allowance (cost_under before) q ls

decides_in_full : decision_in_full (cost_under before) before q ls ≡ choice
decides_in_full = sym (none-decides before no_allowance (cost_under before) q ls) ∙ decides_two

-- at price scale 443,333, the boundary of row (B), model 1 is selected by document 01's term too
none_wins_in_full : wins_in_full (about_one before) 3 443333 ≡ true
unfolding rules
none_wins_in_full = sym (none-wins (about_one before) no_allowance 3 443333)

-- ---- the two terms beside each other

abbrev two : KernelModel
two = model_at bank 1

-- model 2 has 50 ms, all of them free; of model 1's 300 ms, 240 are charged
two_free : latency_term_of p two ≡ 0
unfolding rules
two_free = free-up-to p two (lit≤ tt)

one_charged : latency_term_of p (model_at (bank_at 300) 0) ≡ 2400
unfolding rules
one_charged = charged-above p (model_at (bank_at 300) 0) 240 refl

-- with no allowance the term is the one in full, and with one it is at most that
two_in_full : latency_term_of before two ≡ term_in_full before two
two_in_full = none_is before no_allowance two

at_most : latency_term_of p two ≤ term_in_full p two
at_most = at-most-in-full p two

-- and with 60 ms free it is worth no less than with none, whatever it costs
worth_no_less : (cost : ℕ) → le_z (utility_of before two q cost) (utility_of p two q cost) ≡ true
unfolding policy_of policy_with number bytes_of equal
worth_no_less cost = more-free-more-worth before 0 60 (lit≤ tt) two q cost
