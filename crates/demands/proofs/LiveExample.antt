-- Demands 2 and 3 of live records, at a bank edited from an empty one of three slots: slot 0 is free, models 1 and 2 of document 01 stand in slots 1
-- and 2. Assumes nothing.
use Rattle.rules.proofs.Kit.{ℕ, ◌≤◌, ◌≡◌, refl, sym, ap, subst, ◌∙◌, true, ◌⊎◌, inr, List, [], ◌∷◌, ◌↔◌, some, none, arith, pos, List·Memᴰ·head}
use Rattle.rules.proofs.Kit.{Option·some-injective, replicate, ◌++◌}
use Rattle.rules.specs.{Bytes.number, Records.listed, Records.model_of, Price.cost_under, Rank.Candidate, Rank.eligibles, Rank.ranking, Decide.decision_of}
use Rattle.rules.specs.{Levers.Question, Levers.wins, Levers.decision_at, Printed.entries_of, Slots.live_in, Live.live_what_would_win_of, Live.live_decision_margin_of}
use Rattle.rules.specs.{Order.Each, Verdict.judge}
use Rattle.rules.proofs.{Opened.rules, Example.with, Example.model_one, Example.model_two, Example.lever}
use Rattle.demands.specs.{Demand3.MarginExact, Demand3.margin_passes, Demand3.OffExact, Demand3.enabled_entry, Edited.adding, Ranked.many_at, Ranked.Beats}
use Rattle.demands.specs.{Ranked.InStrictOrder, Ranked.judged_live, Keeping.kept_in_rust, Keeping.two, Demand3.question, Demand3.of_lever, Demand3.entries_for}
use Rattle.demands.specs.{Demand3.Unselected, Demand3.SwitchedOn, Demand3.WinExact, Demand3.MarginOfChoice, Demand3.win_passes, Keeping.first_two}
use Rattle.demands.proofs.{LiveDemands.live-margin-few-within, LiveDemands.live-win-passes, LiveDemands.live-margin-passes}
use Rattle.demands.proofs.{LiveDemands.live-counts-make-up, LiveDemands.live-ranked-once, LiveDemands.live-chosen-beats-all}
use Rattle.demands.proofs.{LiveDemands.live-counterfactual-beats-others, BoundariesExample.p, BoundariesExample.q, EditsExample.row}
use Rattle.demands.proofs.{EditsExample.swapped, LiveDemands.live-ranking-strict, LiveDemands.rust-keeps-of-live, LiveDemands.live-win-exact}
use Rattle.demands.proofs.{LiveDemands.live-margin-exact, LiveDemands.live-unsearched-empty, LiveDemands.live-searched-passes}
use Rattle.demands.proofs.{LiveDemands.live-kept-passes, LiveDemands.live-off-exact}

-- ---- demand 2

abbrev best : Candidate
best = record { utility = pos 6200; cost = 300; quality = 8000; id = 2; place = 2 }

abbrev second : Candidate
second = record { utility = pos 5200; cost = 1800; quality = 9000; id = 1; place = 1 }

ranked : ranking (judged_live p q swapped) ≡ best ∷ second ∷ []
unfolding rules
ranked = refl

strict : InStrictOrder (best ∷ second ∷ [])
strict = subst InStrictOrder ranked (live-ranking-strict p q swapped)

kept : kept_in_rust (eligibles (judged_live p q swapped)) ≡ two (some best) (some second)
kept = rust-keeps-of-live p q swapped ∙ ap first_two ranked

first_beats : Each (λ x. (x ≡ best) ⊎ Beats best x) (eligibles (judged_live p q swapped))
first_beats = live-chosen-beats-all p q swapped best (second ∷ []) ranked

second_beats : Each (λ x. (x ≡ best) ⊎ (x ≡ second) ⊎ Beats second x) (eligibles (judged_live p q swapped))
second_beats = live-counterfactual-beats-others p q swapped best second [] ranked

-- model 1's record, at slot 1
once : many_at 1 (ranking (judged_live p q swapped)) ≡ 1
unfolding rules
once = live-ranked-once p q swapped (judge p q (listed 1 (model_of model_one))) (List·Memᴰ·head refl)

-- the free slot is not among the two evaluated
makes_up : (decision_of p q (live_in swapped)).evaluated ≡ 2
unfolding rules
makes_up = sym (live-counts-make-up p q swapped)

-- ---- demand 3, first half: what would win for model 1

abbrev one : Question
one = question (cost_under p) p q (live_in swapped) 1 (model_of model_one)

unselected : Unselected (cost_under p) p q (live_in swapped) 1 (listed 1 (model_of model_one))
unfolding rules
unselected = record { listed = refl; runs_on = refl; not_selected = refl }

is_on : SwitchedOn (model_of model_one)
unfolding model_of number
is_on e = omega arith

exact_one : WinExact (live_what_would_win_of p q swapped 1) one
unfolding rules
exact_one = live-win-exact 3 (omega arith) row p q 1 (listed 1 (model_of model_one)) unselected is_on

by_price_lem : entries_for 3 (live_what_would_win_of p q swapped 1) ≡ lever 3 1000000 443333 (some 798) ∷ []
unfolding rules of_lever
by_price_lem = refl

cost_there : (decision_at one 3 443333).cost ≡ 798
unfolding rules
cost_there = refl

-- Of all price scales to 1,000,000, model 1 is selected at those to 443,333 and at no other
one_by_price : (v : ℕ) → v ≤ 1000000 → (wins one 3 v ≡ true) ↔ (v ≤ 443333)
one_by_price v h = (exact_one.price.exact 443333 (rw cost_there by_price_lem)).exactly v ((omega arith), h)

-- it takes 26 passes, the halvings' own
passes_one : win_passes one ≡ 26
unfolding rules
passes_one = sym (live-searched-passes 3 (omega arith) row p q 1 (listed 1 (model_of model_one)) unselected is_on)

-- model 2 is selected already
nothing_for_two : entries_of (live_what_would_win_of p q swapped 2) ≡ []
unfolding rules
nothing_for_two = live-unsearched-empty 3 (omega arith) row p q 2 (listed 2 (model_of model_two)) refl (inr refl)

-- ---- demand 3, second half: the margin of model 2

abbrev chosen_two : Question
chosen_two = question (cost_under p) p q (live_in swapped) 2 (model_of model_two)

chosen : MarginOfChoice (cost_under p) p q (live_in swapped) (live_decision_margin_of p q swapped)
unfolding rules
chosen = live-margin-exact 3 (omega arith) row p q refl

-- the record that is varied is model 2's, in slot 2
varied-two : chosen.varied ≡ listed 2 (model_of model_two)
unfolding rules
varied-two = Option·some-injective chosen.varied (listed 2 (model_of model_two)) (sym chosen.first)

exact_two : MarginExact (live_decision_margin_of p q swapped) chosen_two
unfolding rules
exact_two = subst (λ l. MarginExact (live_decision_margin_of p q swapped) (question (cost_under p) p q (live_in swapped) 2 l.model)) varied-two chosen.exact

live_by_latency : entries_for 2 (live_decision_margin_of p q swapped) ≡ lever 2 50 150 none ∷ []
unfolding rules of_lever
live_by_latency = refl

-- Model 2 stays chosen at the latencies from 50 to 150 ms and at no higher one
two_by_latency : (v : ℕ) → 50 ≤ v → v ≤ 4294967295 → (wins chosen_two 2 v ≡ true) ↔ (v ≤ 150)
unfolding model_of number
two_by_latency v h k = (exact_two.latency.exact 150 live_by_latency).exactly v (h, k)

passes_two : margin_passes chosen_two ≡ 95
unfolding rules
passes_two = sym (live-kept-passes 3 (omega arith) row p q (listed 2 (model_of model_two)) refl refl)

-- at most 99, since qualities and ceilings are within 10,000
at_most_99 : (live_decision_margin_of p q swapped).passes ≤ 99
unfolding rules
at_most_99 = live-margin-few-within p q swapped (((omega arith), (omega arith)), (((omega arith), (omega arith)), tt))

-- ---- a model that is off and free of charge, added to an empty bank before model 2: switching it on would select it

abbrev off : List ℕ
off = with 10 (0 ∷ []) (with 31 (replicate 16 0) model_one)

switched_off : OffExact (live_what_would_win_of p q (off ++ model_two) 1) (question (cost_under p) p q (live_in (off ++ model_two)) 1 (model_of off))
unfolding rules
switched_off =
    live-off-exact 2 (omega arith) (adding p off ∷ adding p model_two ∷ []) p q 1 (listed 0 (model_of off))
    (record { listed = refl; runs_on = refl; not_selected = refl }) refl

enabled_listed : entries_of (live_what_would_win_of p q (off ++ model_two) 1) ≡ enabled_entry ∷ []
unfolding rules
enabled_listed = switched_off.given.1 refl

-- ---- no pass where the bank is refused: a slot with id 0 and its last byte set

abbrev unclear : List ℕ
unclear = replicate 46 0 ++ (1 ∷ [])

no_win : (live_what_would_win_of p q unclear 1).passes ≡ 0
unfolding rules
no_win = live-win-passes p q unclear 1

no_margin : (live_decision_margin_of p q unclear).passes ≡ 0
unfolding rules
no_margin = live-margin-passes p q unclear
