-- Rows beyond document 01's on the boundary calls: where they don't search, what a search finds at the ends of each range; and on the view.
-- Assumes nothing.
use Rattle.rules.proofs.Kit.{ℕ, refl, true, false, List, [], ◌∷◌, ◌++◌, none, some, pos, replicate}
use Rattle.rules.specs.{Records.model_of, Records.input_of, Records.policy_of, Refused.fault, Refused.Answer, Refused.refused, Refused.answered}
use Rattle.rules.specs.{Numbers.Decision, Numbers.Boundary, View.view_of}
use Rattle.rules.proofs.{Opened.rules, Rows.Row, Rows.says, Rows.would_win, Rows.margin, Example.bank, Example.model_one, Example.model_two, Example.policy}
use Rattle.rules.proofs.{Example.request, Example.with, Example.named, Example.uneven, Example.at_hard_limit, Example.unsure, Example.valueless}
use Rattle.rules.proofs.{Example.decision, Example.choice, Example.rejected, Example.lever, Example.no_lever, Example.boundary}

abbrev no_levers : ℕ → Decision → ℕ → Boundary
no_levers id d n = boundary id d false (no_lever ∷ no_lever ∷ no_lever ∷ no_lever ∷ []) 0 n

abbrev boundary_refusal : ℕ → Boundary
boundary_refusal n =
    record {
      refusal = some (fault n);
      model = 0;
      decision = decision 0 3 102 0 65535 0 (pos 0) 0 (pos 0) 0 0 0 0;
      blocked = false;
      levers = no_lever ∷ no_lever ∷ no_lever ∷ no_lever ∷ [];
      count = 0;
      passes = 0;
    }

-- what is chosen where model 1 is off
abbrev alone : Decision
alone = decision 42 2 2 2 1 300 (pos 6200) 0 (pos 0) 2 1 7 3

-- and where model 1 has quality 10,000
abbrev closer : Decision
closer = decision 42 2 2 2 1 300 (pos 6200) 1 (pos 6200) 2 2 7 3

-- two records with id 7, of which the first lacks the capability
abbrev seven : Decision
seven = decision 42 2 2 7 1 300 (pos 6200) 0 (pos 0) 2 1 7 3

abbrev sevens : List ℕ
sevens = named 7 (with 6 (40 ∷ 35 ∷ []) (with 15 (0 ∷ []) model_two)) ++ named 7 model_two

-- model 1 without its capabilities
abbrev incapable : List ℕ
incapable = with 15 (0 ∷ []) model_one

-- the example's policy without a hard limit or a risk term, and without a latency term
abbrev fearless : List ℕ
fearless = with 16 (255 ∷ 255 ∷ []) (with 20 (0 ∷ 0 ∷ []) policy)

abbrev unhurried : List ℕ
unhurried = with 22 (0 ∷ []) policy

-- the example's request for a million tokens, with none to come back, and a value of 10 ^ 13: with model 2's price the scale is the cost
abbrev million : List ℕ → List ℕ
million budget = with 12 (64 ∷ 66 ∷ 15 ∷ 0 ∷ 0 ∷ 0 ∷ 0 ∷ 0 ∷ 0 ∷ 160 ∷ 114 ∷ 78 ∷ 24 ∷ 9 ∷ 0 ∷ 0 ∷ budget) request

stop_rows : List Row
unfolding rules
stop_rows =
    says "selected already: 1 pass" (would_win bank policy request 2) (no_levers 2 choice 1) refl
    ∷ says "5, also where the request is stopped" (would_win bank policy at_hard_limit 3) (boundary_refusal 5) refl
    ∷ says "stopped by 100: 1 pass" (would_win bank policy at_hard_limit 1)
    (boundary 1 (rejected 100 0) true (no_lever ∷ no_lever ∷ no_lever ∷ no_lever ∷ []) 0 1)
    refl
    ∷ says "stopped by 101: 1 pass" (would_win bank policy unsure 1)
    (boundary 1 (rejected 101 0) true (no_lever ∷ no_lever ∷ no_lever ∷ no_lever ∷ []) 0 1)
    refl
    ∷ says "1 before 5" (would_win uneven policy request 3) (boundary_refusal 1) refl
    ∷ says "off, and free of charge: enabled alone" (would_win (with 10 (0 ∷ []) (with 31 (replicate 16 0) model_one) ++ model_two) policy request 1)
    (boundary 1 alone false (lever 5 0 1 none ∷ no_lever ∷ no_lever ∷ no_lever ∷ []) 1 2)
    refl
    ∷ says "off, at its price: 2 passes" (would_win (with 10 (0 ∷ []) model_one ++ model_two) policy request 1) (no_levers 1 alone 2) refl
    ∷ says "enabled 2 is on: four levers, in vain" (would_win (with 10 (2 ∷ []) incapable ++ model_two) policy request 1) (no_levers 1 alone 5) refl
    ∷ says "a quality and a ceiling above 10,000: no pass" (would_win (with 6 (17 ∷ 39 ∷ 17 ∷ 39 ∷ []) incapable ++ model_two) policy request 1)
    (no_levers 1 alone 3)
    refl
    ∷ says "off, but selected through a later record with the id: 1 pass" (would_win (named 7 (with 10 (0 ∷ []) model_one) ++ named 7 model_two) policy request 7)
    (no_levers 7 seven 1)
    refl
    ∷ says "off, but stopped: 1 pass" (would_win (with 10 (0 ∷ []) model_one) policy at_hard_limit 1)
    (boundary 1 (rejected 100 0) true (no_lever ∷ no_lever ∷ no_lever ∷ no_lever ∷ []) 0 1)
    refl
    ∷ says "off: enabled alone is tried, though a later record with the id is on"
    (would_win (named 7 (with 10 (0 ∷ []) model_one) ++ named 8 model_two ++ named 7 model_one) policy request 7)
    (no_levers 7 (decision 42 2 2 8 1 300 (pos 6200) 7 (pos 5200) 3 2 7 3) 2)
    refl
    ∷ says "6: a rejection has no margin" (margin bank policy valueless) (boundary_refusal 6) refl
    ∷ says "1 before 6" (margin uneven policy valueless) (boundary_refusal 1) refl
    ∷ []

win_rows : List Row
unfolding rules
win_rows =
    says "free of charge: the quality alone" (would_win (with 6 (160 ∷ 15 ∷ []) (with 31 (replicate 16 0) model_one) ++ model_two) policy request 1)
    (boundary 1 alone false (lever 1 4000 8200 none ∷ no_lever ∷ no_lever ∷ no_lever ∷ []) 1 18)
    refl
    ∷ says "free of charge: the ceiling alone" (would_win (with 8 (244 ∷ 1 ∷ []) (with 31 (replicate 16 0) model_one) ++ model_two) policy request 1)
    (boundary 1 alone false (lever 4 500 1000 none ∷ no_lever ∷ no_lever ∷ no_lever ∷ []) 1 18)
    refl
    -- a budget of 0 leaves a scale of 0 alone
    ∷ says "a rejection selects no id, 0 included; a price scale of exactly 0" (would_win (with 0 (0 ∷ []) model_one) policy (with 28 (0 ∷ 0 ∷ []) request) 0)
    (boundary 0 (rejected 108 1) false (lever 3 1000000 0 (some 0) ∷ no_lever ∷ no_lever ∷ no_lever ∷ []) 1 25)
    refl
    ∷ says "a quality of 10,000 costs one pass, a ceiling above it none" (would_win (with 6 (16 ∷ 39 ∷ 17 ∷ 39 ∷ []) model_one ++ model_two) policy request 1)
    (boundary 1 closer false (lever 2 100 99 none ∷ lever 3 1000000 999333 (some 1799) ∷ no_lever ∷ no_lever ∷ []) 2 32)
    refl
    -- 10,000 for quality or 0 for latency leaves 6,201, one more than model 2 has
    ∷ says "a quality of exactly 10,000, a latency of exactly 0" (would_win (with 39 (176 ∷ 186 ∷ 228 ∷ []) model_one ++ model_two) policy request 1)
    (boundary 1 (decision 42 2 2 2 1 300 (pos 6200) 1 (pos 5201) 2 2 7 3) false
    (lever 1 9000 10000 none ∷ lever 2 100 0 none ∷ lever 3 1000000 443629 (some 799) ∷ no_lever ∷ [])
    3
    41)
    refl
    ∷ says "a ceiling of exactly 10,000" (would_win model_one fearless (with 36 (16 ∷ 39 ∷ []) request) 1)
    (boundary 1 (rejected 110 1) false (lever 4 8000 10000 none ∷ no_lever ∷ no_lever ∷ no_lever ∷ []) 1 15)
    refl
    -- a range that ended a step before or after 1,000,000 would take a pass more
    ∷ says "a price scale to 1,000,000, by its passes" (would_win model_two policy (million (34 ∷ 66 ∷ 15 ∷ 0 ∷ [])) 2)
    (boundary 2 (rejected 108 1) false (lever 3 1000000 999970 (some 999970) ∷ no_lever ∷ no_lever ∷ no_lever ∷ []) 1 25)
    refl
    ∷ []

margin_rows : List Row
unfolding rules
margin_rows =
    says "repeated ids: the first listed record is varied; a quality of exactly 0" (margin sevens policy request)
    (boundary 7 seven false (lever 1 9000 0 none ∷ no_lever ∷ no_lever ∷ no_lever ∷ []) 1 19)
    refl
    ∷ says "a step before 2 ^ 32 - 1, 10 ^ 9 and 0"
    (margin model_two unhurried (with 36 (1 ∷ 0 ∷ []) (with 42 (254 ∷ replicate 3 255) (million (255 ∷ 201 ∷ 154 ∷ 59 ∷ [])))))
    (boundary 2 (decision 42 2 2 2 0 1000000 (pos 7998999000000) 0 (pos 0) 1 1 7 3) false
    (lever 1 8000 5000 none ∷ lever 2 50 4294967294 none ∷ lever 3 1000000 999999999 (some 999999999) ∷ lever 4 8000 1 none ∷ [])
    4
    96)
    refl
    ∷ says "2 ^ 32 - 1, 10 ^ 9 and 0 win: none of these levers"
    (margin model_two unhurried (with 36 (0 ∷ 0 ∷ []) (with 42 (replicate 4 255) (million (0 ∷ 202 ∷ 154 ∷ 59 ∷ [])))))
    (boundary 2 (decision 42 2 2 2 0 1000000 (pos 7999999000000) 0 (pos 0) 1 1 7 3) false
    (lever 1 8000 5000 none ∷ no_lever ∷ no_lever ∷ no_lever ∷ [])
    1
    17)
    refl
    ∷ says "today's values are the boundaries where a twin comes next" (margin (named 1 model_two ++ model_two) policy request)
    (boundary 1 (decision 42 1 1 1 0 300 (pos 6200) 2 (pos 6200) 2 2 7 3) false
    (lever 1 8000 8000 none ∷ lever 2 50 50 none ∷ lever 3 1000000 1000000 (some 300) ∷ lever 4 8000 1000 none ∷ [])
    4
    93)
    refl
    ∷ []

-- ---- the view

-- the example's decision with a twin of model 2, of id 9, in the record at an index
abbrev twin_at : ℕ → List ℕ → Answer Decision
twin_at index b = view_of (policy_of policy) (input_of request) b index (model_of (named 9 model_two))

view_rows : List Row
unfolding rules
view_rows =
    says "a view of the first record" (twin_at 0 bank) (answered (decision 42 2 2 2 1 300 (pos 6200) 9 (pos 6200) 2 2 7 3)) refl
    ∷ says "a view of the second record" (twin_at 1 bank) (answered (decision 42 2 2 9 1 300 (pos 6200) 1 (pos 5200) 2 2 7 3)) refl
    ∷ says "a view beyond the bank is the bank" (twin_at 2 bank) (answered choice) refl
    ∷ says "a view of an uneven bank: 1" (twin_at 0 uneven) (refused (fault 1)) refl
    ∷ []
