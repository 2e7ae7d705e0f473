-- THE TABLE: document 01's rows (A) to (K), from literal bytes, hold by computation from the rules. Each stands alone, so that every one that
-- fails is told. Assumes nothing.
use Rattle.rules.proofs.Kit.{ℕ, refl, false, List, [], ◌∷◌, ◌++◌, none, some, pos, replicate}
use Rattle.rules.specs.Refused.{answered}
use Rattle.rules.proofs.{Opened.rules, Rows.Row, Rows.says, Rows.All, Rows.all_hold, Rows.decided, Rows.explained, Rows.would_win, Rows.margin}
use Rattle.rules.proofs.{Example.bank, Example.model_one, Example.model_two, Example.policy, Example.request, Example.with, Example.at_hard_limit}
use Rattle.rules.proofs.{Example.unsure, Example.valueless, Example.decision, Example.choice, Example.rejected, Example.counts, Example.no_counts}
use Rattle.rules.proofs.{Example.counted, Example.lever, Example.no_lever, Example.boundary}

-- (A)'s explanation: two eligible records, with quality, risk, cost, latency and utility
abbrev explanation : List ℕ
explanation =
    1 ∷ 0 ∷ 0 ∷ 0 ∷ 0 ∷ 0 ∷ 4 ∷ 0
    ∷ 40 ∷ 35 ∷ 0 ∷ 0 ∷ 0 ∷ 0 ∷ 0 ∷ 0 ∷ 0 ∷ 0 ∷ 0 ∷ 0 ∷ 0 ∷ 0 ∷ 0 ∷ 0
    ∷ 232 ∷ 3 ∷ 0 ∷ 0 ∷ 0 ∷ 0 ∷ 0 ∷ 0 ∷ 0 ∷ 0 ∷ 0 ∷ 0 ∷ 0 ∷ 0 ∷ 0 ∷ 0
    ∷ 8 ∷ 7 ∷ 0 ∷ 0 ∷ 0 ∷ 0 ∷ 0 ∷ 0
    ∷ 232 ∷ 3 ∷ 0 ∷ 0 ∷ 0 ∷ 0 ∷ 0 ∷ 0 ∷ 0 ∷ 0 ∷ 0 ∷ 0 ∷ 0 ∷ 0 ∷ 0 ∷ 0
    ∷ 80 ∷ 20 ∷ 0 ∷ 0 ∷ 0 ∷ 0 ∷ 0 ∷ 0
    ∷ 2 ∷ 0 ∷ 0 ∷ 0 ∷ 1 ∷ 0 ∷ 4 ∷ 0
    ∷ 64 ∷ 31 ∷ 0 ∷ 0 ∷ 0 ∷ 0 ∷ 0 ∷ 0 ∷ 0 ∷ 0 ∷ 0 ∷ 0 ∷ 0 ∷ 0 ∷ 0 ∷ 0
    ∷ 232 ∷ 3 ∷ 0 ∷ 0 ∷ 0 ∷ 0 ∷ 0 ∷ 0 ∷ 0 ∷ 0 ∷ 0 ∷ 0 ∷ 0 ∷ 0 ∷ 0 ∷ 0
    ∷ 44 ∷ 1 ∷ 0 ∷ 0 ∷ 0 ∷ 0 ∷ 0 ∷ 0
    ∷ 244 ∷ 1 ∷ 0 ∷ 0 ∷ 0 ∷ 0 ∷ 0 ∷ 0 ∷ 0 ∷ 0 ∷ 0 ∷ 0 ∷ 0 ∷ 0 ∷ 0 ∷ 0
    ∷ 56 ∷ 24 ∷ 0 ∷ 0 ∷ 0 ∷ 0 ∷ 0 ∷ 0 ∷ []

-- (J)'s: gate 5, 64 measured, 63 the limit
abbrev no_provider : List ℕ
no_provider = 1 ∷ 0 ∷ 0 ∷ 0 ∷ 0 ∷ 0 ∷ 1 ∷ 5 ∷ 64 ∷ replicate 15 0 ++ 63 ∷ replicate 47 0

A : Row
unfolding rules
A = says "(A) the example" (decided bank policy request) (counted choice no_counts) refl

A-explained : Row
unfolding rules
A-explained =
    says "(A) its explanation, in a list with two bytes to spare" (explained bank policy request (replicate 146 255))
    (answered choice, explanation ++ 255 ∷ 255 ∷ [])
    refl

B : Row
unfolding rules
B =
    says "(B) what would win for model 1" (would_win bank policy request 1)
    (boundary 1 choice false (lever 3 1000000 443333 (some 798) ∷ no_lever ∷ no_lever ∷ no_lever ∷ []) 1 26)
    refl

C : Row
unfolding rules
C =
    says "(C) the margin" (margin bank policy request)
    (boundary 2 choice false
    (lever 1 8000 7000 none ∷ lever 2 50 150 none ∷ lever 3 1000000 4330000 (some 1299) ∷ lever 4 8000 1000 none ∷ [])
    4
    95)
    refl

D : Row
unfolding rules
D = says "(D) risk 9,000, at the hard limit" (decided bank policy at_hard_limit) (counted (rejected 100 0) no_counts) refl

E : Row
unfolding rules
E =
    says "(E) risk 8,999" (decided bank policy (with 36 (39 ∷ 35 ∷ []) request)) (counted (rejected 110 2) (counts 0 0 2 0 0 0 0 0 0))
    refl

F : Row
unfolding rules
F = says "(F) confidence 1,999" (decided bank policy unsure) (counted (rejected 101 0) no_counts) refl

F-not : Row
unfolding rules
F-not =
    says "(F) confidence 2,000" (decided bank policy (with 38 (208 ∷ 7 ∷ []) request))
    (counted (rejected 109 2) (counts 0 0 0 0 0 0 0 0 2))
    refl

G : Row
unfolding rules
G =
    says "(G) one token each way, at price 1"
    (decided (with 31 (1 ∷ replicate 7 0 ++ 1 ∷ replicate 7 0) model_one) policy (with 12 (1 ∷ 0 ∷ 0 ∷ 0 ∷ 1 ∷ []) request))
    (counted (decision 42 1 1 1 0 2 (pos 6998) 0 (pos 0) 1 1 7 3) no_counts)
    refl

H : Row
unfolding rules
H = says "(H) an empty bank" (decided [] policy request) (counted (rejected 102 0) no_counts) refl

I : Row
unfolding rules
I =
    says "(I) model 1 without its capabilities, model 2 switched off"
    (decided (with 15 (0 ∷ []) model_one ++ with 10 (0 ∷ []) model_two) policy request)
    (counted (rejected 102 2) (counts 1 0 0 0 1 0 0 0 0))
    refl

J : Row
unfolding rules
J =
    says "(J) provider 64, and a mask of all ones" (explained (with 4 (64 ∷ []) model_one) policy request (replicate 72 255))
    (answered (rejected 106 1), no_provider)
    refl

K : Row
unfolding rules
K = says "(K) value -1" (decided bank policy valueless) (counted (rejected 109 2) (counts 0 0 0 0 0 0 0 0 2)) refl

pub rows : List Row
rows = A ∷ A-explained ∷ B ∷ C ∷ D ∷ E ∷ F ∷ F-not ∷ G ∷ H ∷ I ∷ J ∷ K ∷ []

-- one statement of all of them
table : All rows
table = all_hold rows
