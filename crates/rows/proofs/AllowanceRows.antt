-- Rows on the first milliseconds free (document 02, f): the example under allowances, and a policy's bytes. The term itself, at its edges, stands in
-- `rules/proofs/AllowanceRows`, tag 5 in `AllowanceForms`. Assumes nothing.
use Rattle.rules.proofs.Kit.{ℕ, ◌-◌, ◌*◌, ◌^◌, refl, List, [], ◌∷◌, ◌++◌, map, none, some, ℤ, pos, replicate, take, false}
use Rattle.rules.specs.{Bytes.bytes_of, Bytes.number_at, Records.input_of, Records.policy_of, Records.policy_in_bytes, Refused.fault, Refused.Answer}
use Rattle.rules.specs.{Refused.refused, Refused.answered, Numbers.Decision, Numbers.Entry, Numbers.Boundary, Decide.utility_for_model_of}
use Rattle.rules.specs.{Stored.read_policy_of}
use Rattle.rules.specs.declared.records.Rounding.TheVariants.{Apart, Once}
use Rattle.rules.proofs.{Opened.rules, Rows.Row, Rows.says, Rows.decided, Rows.explained, Rows.would_win, Rows.margin, AllowanceRows.allowing}
use Rattle.rules.proofs.{AllowanceRows.charging, AllowanceRows.late, AllowanceRows.within99}
use Rattle.rules.proofs.{Example.model_one, Example.model_two, Example.bank, Example.policy, Example.request, Example.with, Example.decision}
use Rattle.rules.proofs.{Example.rejected, Example.counts, Example.no_counts, Example.counted, Example.lever, Example.no_lever, Example.boundary}

-- ---- what follows the term

-- the example's policy with an allowance, rounding apart and rounding once; and with the largest penalty
abbrev pub free : ℕ → List ℕ
free allowance = allowing allowance policy

abbrev pub free_once : ℕ → List ℕ
free_once allowance = with 30 (1 ∷ []) (free allowance)

abbrev dear : ℕ → List ℕ
dear allowance = allowing allowance (charging (2 ^ 64 - 1))

-- model 1 with another quality, and so late
abbrev pub one : ℕ → ℕ → List ℕ
one quality ms = with 6 (bytes_of 2 quality) (late ms model_one)

-- model 2 chosen from the example's two: its utility, and that of model 1; and where model 1 isn't eligible
abbrev second : ℕ → ℕ → Decision
second utility other = decision 42 2 2 2 1 300 (pos utility) 1 (pos other) 2 2 7 3

abbrev second_alone : Decision
second_alone = decision 42 2 2 2 1 300 (pos 6700) 0 (pos 0) 2 1 7 3

-- model 1 chosen from two, with quality 9,501 and nothing charged: 6,701, where model 2 has 6,700
abbrev first : Decision
first = decision 42 1 1 1 0 1800 (pos 6701) 2 (pos 6700) 2 2 7 3

-- model 1 by itself
abbrev only : ℤ → Decision
only utility = decision 42 1 1 1 0 1800 utility 0 (pos 0) 1 1 7 3

abbrev utilities : List ℕ → List (Answer ℤ)
utilities p = map (λ id. utility_for_model_of (policy_of p) (input_of request) id bank) (1 ∷ 2 ∷ [])

-- at 2,252 quality and risk terms and cost leave 1
abbrev worth_one : List ℕ
worth_one = with 20 (204 ∷ 8 ∷ []) request

decision_rows : List Row
unfolding rules
decision_rows =
    says "49 ms free, one below model 2's latency: 51 and 1 charged" (decided bank (free 49) request) (counted (second 6690 5690) no_counts) refl
    ∷ says "50, at it" (decided bank (free 50) request) (counted (second 6700 5700) no_counts) refl
    ∷ says "51, one above it" (decided bank (free 51) request) (counted (second 6700 5710) no_counts) refl
    ∷ says "99, 100 and 101, about model 1's" (map (λ a. decided bank (free a) request) (99 ∷ 100 ∷ 101 ∷ []))
    (counted (second 6700 6190) no_counts ∷ counted (second 6700 6200) no_counts ∷ counted (second 6700 6200) no_counts ∷ [])
    refl
    ∷ says "200 and the largest" (map (λ a. decided bank (free a) request) (200 ∷ (2 ^ 32 - 1) ∷ []))
    (counted (second 6700 6200) no_counts ∷ counted (second 6700 6200) no_counts ∷ [])
    refl
    ∷ says "none, said in 35 bytes" (decided bank (free 0) request) (counted (second 6200 5200) no_counts) refl
    ∷ says "200, rounding once" (decided bank (free_once 200) request) (counted (second 6700 6200) no_counts) refl
    ∷ says "a millisecond decides: 99 free" (decided (one 9501 100 ++ model_two) (free 99) request) (counted (second 6700 6691) no_counts) refl
    ∷ says "and 100 free" (decided (one 9501 100 ++ model_two) (free 100) request) (counted first no_counts) refl
    ∷ says "the largest penalty, latency at the allowance" (decided model_one (dear 100) request) (counted (only (pos 6200)) no_counts) refl
    ∷ says "and one above it" (decided (late 101 model_one) (dear 100) request) (counted (rejected 109 1) (counts 0 0 0 0 0 0 0 0 1)) refl
    ∷ says "a utility of 1 at the allowance" (decided model_one (allowing 100 (charging 1)) worth_one) (counted (only (pos 1)) no_counts) refl
    ∷ says "and of 0 one above it" (decided model_one (allowing 99 (charging 1)) worth_one) (counted (rejected 109 1) (counts 0 0 0 0 0 0 0 0 1)) refl
    ∷ says "a limit of 99: model 1 is counted as too slow, though 200 ms are free" (decided bank (free 200) within99)
    (counted second_alone (counts 0 0 0 1 0 0 0 0 0))
    refl
    ∷ says "a limit of 49: both are" (decided bank (free 200) (with 42 (49 ∷ []) request)) (counted (rejected 104 2) (counts 0 0 0 2 0 0 0 0 0)) refl
    ∷ says "a limit of 100: neither is" (decided bank (free 200) (with 42 (100 ∷ []) request)) (counted (second 6700 6200) no_counts) refl
    ∷ says "the utility of one model, of each of the two" (map utilities (free 49 ∷ free 50 ∷ free 51 ∷ free_once 99 ∷ free_once 100 ∷ []))
    ((answered (pos 5690) ∷ answered (pos 6690) ∷ [])
    ∷ (answered (pos 5700) ∷ answered (pos 6700) ∷ [])
    ∷ (answered (pos 5710) ∷ answered (pos 6700) ∷ [])
    ∷ (answered (pos 6190) ∷ answered (pos 6700) ∷ [])
    ∷ (answered (pos 6200) ∷ answered (pos 6700) ∷ [])
    ∷ [])
    refl
    ∷ says "the utility of one that is too slow: 7" (utility_for_model_of (policy_of (free 200)) (input_of within99) 1 bank) (refused (fault 7)) refl
    ∷ []

-- a model's explanation record at an offset, so many bytes: the verdict, the gate, what it measured and its limit, the latency term, the utility,
-- and all from the cost on
abbrev told : List ℕ → List ℕ → List ℕ → ℕ × ℕ → ℕ
told m p q at = number_at (explained m p q (replicate 72 0)).1 at.0 at.1

abbrev verdict : ℕ × ℕ
verdict = (6, 1)

abbrev gate : ℕ × ℕ
gate = (7, 1)

abbrev measured : ℕ × ℕ
measured = (8, 16)

abbrev limit : ℕ × ℕ
limit = (24, 16)

abbrev term : ℕ × ℕ
term = (48, 16)

abbrev utility : ℕ × ℕ
utility = (64, 8)

abbrev from_cost : ℕ × ℕ
from_cost = (40, 32)

-- under each rounding, with latency above, at and below the allowance
abbrev policies : List (List ℕ)
policies = policy ∷ free 99 ∷ free 100 ∷ free 101 ∷ free_once 99 ∷ free_once 100 ∷ free_once 101 ∷ []

explanation_rows : List Row
unfolding rules
explanation_rows =
    says "the latency term" (map (λ p. told model_one p request term) policies) (1000 ∷ 10 ∷ 0 ∷ 0 ∷ 10 ∷ 0 ∷ 0 ∷ []) refl
    ∷ says "the utility beside it" (map (λ p. told model_one p request utility) policies) (5200 ∷ 6190 ∷ 6200 ∷ 6200 ∷ 6190 ∷ 6200 ∷ 6200 ∷ []) refl
    ∷ says "the largest penalty at the allowance: eligible, and no term" (map (told model_one (dear 100) request) (verdict ∷ term ∷ utility ∷ []))
    (4 ∷ 0 ∷ 6200 ∷ [])
    refl
    -- the lowest utility's 64 bits are those of 2 ^ 63
    ∷ says "and one above it: verdict 3, the penalty once" (map (told (late 101 model_one) (dear 100) request) (verdict ∷ term ∷ utility ∷ []))
    (3 ∷ (2 ^ 64 - 1) ∷ (2 ^ 63) ∷ [])
    refl
    ∷ says "the largest penalty and latency, 1 ms free: twelve bytes of the sixteen" (told (late (2 ^ 32 - 1) model_one) (dear 1) request term)
    ((2 ^ 32 - 2) * (2 ^ 64 - 1))
    refl
    ∷ says "too slow: latency and limit in full, and no term"
    (map (λ p. map (told model_one p within99) (verdict ∷ gate ∷ measured ∷ limit ∷ from_cost ∷ [])) (free 200 ∷ free_once 200 ∷ []))
    ((1 ∷ 3 ∷ 100 ∷ 99 ∷ 0 ∷ []) ∷ (1 ∷ 3 ∷ 100 ∷ 99 ∷ 0 ∷ []) ∷ [])
    refl
    ∷ []

-- ---- boundaries

-- a lever without a cost, and an answer with one lever or two, or with none
abbrev by : ℕ → ℕ → ℕ → Entry
by number current edge = lever number current edge none

abbrev one_lever : ℕ → Decision → Entry → ℕ → Boundary
one_lever id d e passes = boundary id d false (e ∷ no_lever ∷ no_lever ∷ no_lever ∷ []) 1 passes

abbrev two_levers : ℕ → Decision → Entry → Entry → ℕ → Boundary
two_levers id d e f passes = boundary id d false (e ∷ f ∷ no_lever ∷ no_lever ∷ []) 2 passes

abbrev no_levers : ℕ → Decision → ℕ → Boundary
no_levers id d passes = boundary id d false (no_lever ∷ no_lever ∷ no_lever ∷ no_lever ∷ []) 0 passes

win_rows : List Row
unfolding rules
win_rows =
    says "model 1 would win at the allowance, and not one above it" (would_win (one 9501 300 ++ model_two) (free 60) request 1)
    (one_lever 1 (second 6700 4301) (by 2 300 60) 13)
    refl
    ∷ says "with none free, at 50" (would_win (one 9501 300 ++ model_two) policy request 1) (one_lever 1 (second 6200 3701) (by 2 300 50) 14) refl
    ∷ says "above the allowance: at 69, 9 of them charged" (would_win (one 9600 300 ++ model_two) (free 60) request 1)
    (one_lever 1 (second 6700 4400) (by 2 300 69) 14)
    refl
    ∷ says "with the largest penalty, at the allowance" (would_win (one 9501 300 ++ model_two) (dear 60) request 1)
    (one_lever 1 second_alone (by 2 300 60) 13)
    refl
    ∷ says "no latency wins where all of them are free" (would_win (one 9500 300 ++ model_two) (free 300) request 1)
    (two_levers 1 (second 6700 6700) (by 1 9500 9501) (lever 3 1000000 999333 (some 1799)) 35)
    refl
    ∷ says "where with none free one of 49 does" (would_win (one 9500 300 ++ model_two) policy request 1)
    (one_lever 1 (second 6200 3700) (by 2 300 49) 14)
    refl
    ∷ says "nor where model 2 gains as much from it" (would_win (one 9500 300 ++ model_two) (free 60) request 1) (no_levers 1 (second 6700 4300) 5) refl
    ∷ says "(B) with 49 free: both gain as much" (would_win bank (free 49) request 1)
    (one_lever 1 (second 6690 5690) (lever 3 1000000 443333 (some 798)) 26)
    refl
    ∷ says "(B) with 200 free" (would_win bank (free 200) request 1)
    (two_levers 1 (second 6700 6200) (by 1 9000 9501) (lever 3 1000000 721333 (some 1299)) 36)
    refl
    ∷ says "(B) with 200 free, once" (would_win bank (free_once 200) request 1)
    (two_levers 1 (second 6700 6200) (by 1 9000 9501) (lever 3 1000000 721666 (some 1299)) 36)
    refl
    ∷ says "a limit of 99, and more is free: at the limit" (would_win (one 9501 100 ++ model_two) (free 200) within99 1)
    (one_lever 1 second_alone (by 2 100 99) 12)
    refl
    ∷ says "a limit of 99, and less is free: at the allowance" (would_win (one 9501 100 ++ model_two) (free 98) within99 1)
    (one_lever 1 second_alone (by 2 100 98) 12)
    refl
    ∷ says "chosen already, by what is free" (would_win (one 9501 100 ++ model_two) (free 100) request 1) (no_levers 1 first 1) refl
    ∷ says "switched off: it would win with 100 free" (would_win (with 10 (0 ∷ []) (one 9501 100) ++ model_two) (free 100) request 1)
    (one_lever 1 second_alone (by 5 0 1) 2)
    refl
    ∷ says "and not with 99" (would_win (with 10 (0 ∷ []) (one 9501 100) ++ model_two) (free 99) request 1) (no_levers 1 second_alone 2) refl
    ∷ []

-- the margin of model 2, chosen from two: its quality, latency and price scale; its ceiling is the request's risk
abbrev kept : Decision → ℕ → ℕ → ℕ → ℕ → ℕ → Boundary
kept d quality ms scale cost passes = boundary 2 d false (by 1 8000 quality ∷ by 2 50 ms ∷ lever 3 1000000 scale (some cost) ∷ by 4 8000 1000 ∷ []) 4 passes

-- and without one for its latency
abbrev kept_at_any : Decision → Boundary
kept_at_any d = boundary 2 d false (by 1 8000 7500 ∷ lever 3 1000000 2665000 (some 800) ∷ by 4 8000 1000 ∷ no_lever ∷ []) 3 62

margin_rows : List Row
unfolding rules
margin_rows =
    says "(C) with 49 free: both gain as much" (margin bank (free 49) request) (kept (second 6690 5690) 7000 150 4330000 1299 95) refl
    ∷ says "(C) with 60 free, from below the allowance to above it" (margin bank (free 60) request)
    (kept (second 6700 5800) 7100 150 4000000 1200 96)
    refl
    ∷ says "(C) with 200 free" (margin bank (free 200) request) (kept (second 6700 6200) 7500 250 2665000 800 95) refl
    ∷ says "(C) with 200 free, once" (margin bank (free_once 200) request) (kept (second 6700 6200) 7500 250 2666666 800 95) refl
    ∷ says "at the allowance, and not one above it" (margin (one 9500 100 ++ model_two) (free 120) request)
    (kept (second 6700 6700) 8000 120 1000000 300 94)
    refl
    ∷ says "with the largest penalty, at the allowance" (margin bank (dear 100) request) (kept (second 6700 6200) 7500 100 2665000 800 95) refl
    ∷ says "and at the largest allowance but one" (margin bank (dear (2 ^ 32 - 2)) request)
    (kept (second 6700 6200) 7500 (2 ^ 32 - 2) 2665000 800 95)
    refl
    ∷ says "the largest allowance: the far end wins, and there is no lever" (margin bank (dear (2 ^ 32 - 1)) request)
    (kept_at_any (second 6700 6200))
    refl
    ∷ says "the same where the far end is charged little, or nothing" (map (λ a. margin bank (free a) request) ((2 ^ 32 - 2) ∷ (2 ^ 32 - 1) ∷ []))
    (kept_at_any (second 6700 6200) ∷ kept_at_any (second 6700 6200) ∷ [])
    refl
    ∷ says "a limit of 99: as far as that, though no term is charged there" (margin bank (free 200) within99)
    (kept second_alone 5000 99 16665000 5000 95)
    refl
    ∷ says "whatever is free" (margin bank (free (2 ^ 32 - 1)) within99) (kept second_alone 5000 99 16665000 5000 95) refl
    ∷ says "a limit between the allowance and what the term would bear" (margin bank (free 120) (with 42 (160 ∷ []) request))
    (kept (second 6700 6200) 7500 160 2665000 800 95)
    refl
    ∷ []

-- ---- a policy's bytes

-- an allowance with a different byte in every place, and its 35 bytes
abbrev spelled : List ℕ
spelled = policy ++ (1 ∷ 1 ∷ 2 ∷ 3 ∷ 4 ∷ [])

policy_rows : List Row
unfolding rules
policy_rows =
    says "30 bytes and 31: no allowance" (map (λ s. (policy_of s).latency_allowance_ms) (policy ∷ (policy ++ (0 ∷ [])) ∷ (policy ++ (1 ∷ [])) ∷ []))
    (0 ∷ 0 ∷ 0 ∷ [])
    refl
    ∷ says "35 bytes" (read_policy_of (free 200)) (answered (policy_of (free 200))) refl
    ∷ says "their allowance, the lowest byte first" (policy_of spelled).latency_allowance_ms 67305985 refl
    ∷ says "how they round" (map (λ s. (policy_of s).rounding) (free 200 ∷ free_once 200 ∷ spelled ∷ [])) (Apart ∷ Once ∷ Once ∷ []) refl
    ∷ says "35 bytes with an allowance of 0 are those of 30" (read_policy_of (free 0)) (answered (policy_of policy)) refl
    ∷ says "or of 31" (read_policy_of (free_once 0)) (answered (policy_of (policy ++ (1 ∷ [])))) refl
    ∷ says "32, 33 and 34 bytes: 22" (map (λ n. read_policy_of (take n (free 200))) (32 ∷ 33 ∷ 34 ∷ []))
    (refused (fault 22) ∷ refused (fault 22) ∷ refused (fault 22) ∷ [])
    refl
    ∷ says "36 bytes: 22" (read_policy_of (free 200 ++ (0 ∷ []))) (refused (fault 22)) refl
    ∷ says "35 bytes with a 31st of 2: 23" (read_policy_of (with 30 (2 ∷ []) (free 200))) (refused (fault 23)) refl
    ∷ says "36 bytes with a 31st of 2: 22, before 23" (read_policy_of (with 30 (2 ∷ []) (free 200) ++ (0 ∷ []))) (refused (fault 22)) refl
    ∷ says "handed back: the same 35 bytes" (policy_in_bytes (policy_of spelled)) spelled refl
    ∷ says "of 30: five more, all 0" (policy_in_bytes (policy_of policy)) (free 0) refl
    ∷ []
