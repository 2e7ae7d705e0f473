-- Rows on swapping models (document 02, i): adding, replacing and removing by id, the compaction, and the calls over live records. A row of an edit
-- tells its answer and the bank at exit. Assumes nothing.
use Rattle.rules.proofs.Kit.{ℕ, refl, false, List, [], ◌∷◌, ◌++◌, map, none, some, pos, ℤ, replicate, take}
use Rattle.rules.specs.{Records.policy_of, Records.input_of, Refused.fault, Refused.model_fault, Refused.Answer, Refused.refused, Refused.answered}
use Rattle.rules.specs.{Numbers.EditedPolicy, Numbers.Decision, Numbers.DecisionAndTrace, Numbers.Boundary, Slots.free_slot, Edits.add_of, Edits.add_bank}
use Rattle.rules.specs.{Edits.replace_of, Edits.replace_bank, Edits.remove_of, Edits.remove_bank, Edits.compact_of, Edits.compact_bank, Levers.boundary_refused}
use Rattle.rules.specs.{Live.live_prescribe_traced_of, Live.live_prescribe_traced_checked_of, Live.live_find_of, Live.live_utility_for_model_of, Live.live_explain_of}
use Rattle.rules.specs.{Live.live_batch_of, Live.live_batch_row}
use Rattle.rules.specs.{Live.live_explain_list, Live.live_what_would_win_of, Live.live_decision_margin_of}
use Rattle.rules.proofs.{Opened.rules, Rows.Row, Rows.says, Rows.decided, Rows.explained, Example.model_one, Example.model_two, Example.bank, Example.uneven}
use Rattle.rules.proofs.{Example.policy, Example.request, Example.with, Example.named, Example.at_hard_limit, Example.decision, Example.rejected, Example.counts}
use Rattle.rules.proofs.{Example.no_counts, Example.counted, Example.lever, Example.no_lever, Example.boundary}

-- ---- what the rows are of

abbrev free : List ℕ
free = free_slot

-- a free slot with one byte set, the first behind the id, and the last
abbrev second_field : List ℕ
second_field = with 4 (1 ∷ []) free

abbrev last_byte : List ℕ
last_byte = with 46 (1 ∷ []) free

-- another model, and models 1 and 2 of another provider
abbrev third : List ℕ
third = named 3 model_two

abbrev other_one : List ℕ
other_one = with 4 (9 ∷ []) model_one

abbrev other_two : List ℕ
other_two = with 4 (9 ∷ []) model_two

-- the example's policy at the largest catalogue epoch, and at the one before it
abbrev spent : List ℕ
spent = with 8 (replicate 8 255) policy

abbrev last_but_one : List ℕ
last_but_one = with 8 (254 ∷ replicate 7 255) policy

-- an edit's answer and the bank at exit
abbrev Exit : Type 0
Exit = Answer EditedPolicy × List ℕ

abbrev added : List ℕ → List ℕ → List ℕ → Exit
added p b r = (add_of (policy_of p) b r, add_bank (policy_of p) b r)

abbrev replaced : List ℕ → List ℕ → List ℕ → Exit
replaced p b r = (replace_of (policy_of p) b r, replace_bank (policy_of p) b r)

abbrev removed : List ℕ → List ℕ → ℕ → Exit
removed p b id = (remove_of (policy_of p) b id, remove_bank (policy_of p) b id)

abbrev compact : List ℕ → List ℕ → Exit
compact p b = (compact_of (policy_of p) b, compact_bank (policy_of p) b)

-- done: the example's policy with epoch 4, and the slot or how many are live; refused: the bank as it was
abbrev done_by : List ℕ → ℕ → List ℕ → Exit
done_by p n b = (answered (record { policy = policy_of p; number = n }), b)

abbrev done : ℕ → List ℕ → Exit
done n b = done_by (with 8 (4 ∷ []) policy) n b

abbrev no : ℕ → List ℕ → Exit
no n b = (refused (fault n), b)

abbrev there : ℕ → List ℕ → Exit
there id b = (refused (model_fault 12 0 id 0), b)

-- ---- adding

add_rows : List Row
unfolding rules
add_rows =
    says "an all-zero bank: slot 0" (added policy (free ++ free) model_one) (done 0 (model_one ++ free)) refl
    ∷ says "the lowest free slot, between two live ones" (added policy (model_one ++ free ++ model_two ++ free) third)
    (done 1 (model_one ++ third ++ model_two ++ free)) refl
    ∷ says "the last slot" (added policy (bank ++ free) third) (done 2 (bank ++ third)) refl
    ∷ says "fields are not looked at" (added policy free (1 ∷ replicate 46 255)) (done 0 (1 ∷ replicate 46 255)) refl
    ∷ says "a full bank: 28" (added policy bank third) (no 28 bank) refl
    ∷ says "an empty bank: 28" (added policy [] third) (no 28 []) refl
    ∷ says "an id that is there: 12" (added policy (bank ++ free) other_two) (there 2 (bank ++ free)) refl
    ∷ says "12 before 28" (added policy bank model_one) (there 1 bank) refl
    ∷ says "the largest epoch: 27" (added spent (bank ++ free) third) (no 27 (bank ++ free)) refl
    ∷ says "the epoch before it is raised" (added last_but_one free third) (done_by spent 0 third) refl
    ∷ says "27 before 12" (added spent (bank ++ free) model_one) (no 27 (bank ++ free)) refl
    ∷ says "27 before 28" (added spent bank third) (no 27 bank) refl
    ∷ says "id 0: 16" (added policy free (named 0 model_one)) (no 16 free) refl
    ∷ says "16 before 27" (added spent free (named 0 model_one)) (no 16 free) refl
    ∷ says "byte 4 of a slot with id 0: 34" (added policy (free ++ second_field) third) (no 34 (free ++ second_field)) refl
    ∷ says "byte 46: 34" (added policy (free ++ last_byte) third) (no 34 (free ++ last_byte)) refl
    ∷ says "34 before 16" (added policy last_byte (named 0 model_one)) (no 34 last_byte) refl
    ∷ says "1 before 34" (added policy (second_field ++ (0 ∷ [])) third) (no 1 (second_field ++ (0 ∷ []))) refl
    ∷ says "46 bytes: 22, before 1" (added policy uneven (take 46 third)) (no 22 uneven) refl
    ∷ says "48 bytes: 22, before 1" (added policy uneven (third ++ (0 ∷ []))) (no 22 uneven) refl
    ∷ []

-- ---- replacing

replace_rows : List Row
unfolding rules
replace_rows =
    says "behind a gap" (replaced policy (free ++ bank) other_two) (done 2 (free ++ model_one ++ other_two)) refl
    ∷ says "by itself: the epoch is raised all the same" (replaced policy bank model_one) (done 0 bank) refl
    ∷ says "an id that is listed twice: the first" (replaced policy (model_two ++ model_one ++ model_one) other_one)
    (done 1 (model_two ++ other_one ++ model_one)) refl
    ∷ says "an id that isn't there: 5" (replaced policy (bank ++ free) third) (no 5 (bank ++ free)) refl
    ∷ says "27 before 5" (replaced spent bank third) (no 27 bank) refl
    ∷ says "16 before 27" (replaced spent (bank ++ free) (named 0 model_one)) (no 16 (bank ++ free)) refl
    ∷ says "34 before 16" (replaced policy (bank ++ last_byte) (named 0 model_one)) (no 34 (bank ++ last_byte)) refl
    ∷ says "46 bytes: 22, before 1" (replaced policy uneven (take 46 model_one)) (no 22 uneven) refl
    ∷ says "48 bytes: 22, before 34" (replaced policy second_field (model_one ++ (0 ∷ []))) (no 22 second_field) refl
    ∷ []

-- ---- removing

remove_rows : List Row
unfolding rules
remove_rows =
    says "its slot is free" (removed policy bank 2) (done 1 (model_one ++ free)) refl
    ∷ says "an id that is listed twice: the first" (removed policy (model_two ++ model_one ++ other_one) 1) (done 1 (model_two ++ free ++ other_one)) refl
    ∷ says "and then the other" (removed policy (model_two ++ free ++ other_one) 1) (done 2 (model_two ++ free ++ free)) refl
    ∷ says "an id that isn't there: 5" (removed policy (bank ++ free) 3) (no 5 (bank ++ free)) refl
    ∷ says "id 0, with a slot free: 16" (removed policy (bank ++ free) 0) (no 16 (bank ++ free)) refl
    ∷ says "16 before 27" (removed spent bank 0) (no 16 bank) refl
    ∷ says "27 before 5" (removed spent bank 3) (no 27 bank) refl
    ∷ says "34 before 16" (removed policy (second_field ++ bank) 0) (no 34 (second_field ++ bank)) refl
    ∷ says "1 before 16" (removed policy uneven 0) (no 1 uneven) refl
    ∷ []

-- ---- the compaction

compact_rows : List Row
unfolding rules
compact_rows =
    says "gaps closed, the order kept" (compact policy (free ++ model_two ++ free ++ free ++ model_one))
    (done 2 (model_two ++ model_one ++ free ++ free ++ free)) refl
    ∷ says "no gap: the epoch is raised, and no byte is changed" (compact policy (bank ++ free)) (done 2 (bank ++ free)) refl
    ∷ says "nothing live" (compact policy (free ++ free)) (done 0 (free ++ free)) refl
    ∷ says "an empty bank" (compact policy []) (done 0 []) refl
    ∷ says "the largest epoch: 27" (compact spent (free ++ bank)) (no 27 (free ++ bank)) refl
    ∷ says "34 before 27" (compact spent (last_byte ++ bank)) (no 34 (last_byte ++ bank)) refl
    ∷ says "1 before 27" (compact spent uneven) (no 1 uneven) refl
    ∷ []

-- ---- calls over live records

-- the example with two gaps, and its decision: slot 3, and two evaluated
abbrev gaps : List ℕ
gaps = model_one ++ free ++ free ++ model_two

abbrev behind : ℕ → Decision
behind evaluated = decision 42 2 2 2 3 300 (pos 6200) 1 (pos 5200) evaluated 2 7 3

abbrev live : List ℕ → List ℕ → Answer DecisionAndTrace
live b q = live_prescribe_traced_of (policy_of policy) (input_of q) b

abbrev live_explained : List ℕ → List ℕ → Answer Decision × List ℕ
live_explained b list = (live_explain_of (policy_of policy) (input_of request) b list, live_explain_list (policy_of policy) (input_of request) b list)

abbrev would_win : List ℕ → ℕ → Boundary
would_win b id = live_what_would_win_of (policy_of policy) (input_of request) b id

abbrev utility : List ℕ → ℕ → Answer ℤ
utility b id = live_utility_for_model_of (policy_of policy) (input_of request) id b

live_rows : List Row
unfolding rules
live_rows =
    says "the example with two gaps" (live gaps request) (counted (behind 2) no_counts) refl
    ∷ says "decided as it lies, free slots are models that are off" (decided gaps policy request) (counted (behind 4) (counts 2 0 0 0 0 0 0 0 0)) refl
    ∷ says "without a gap, the example" (live bank request) (decided bank policy request) refl
    ∷ says "nothing live" (live (free ++ free) request) (counted (rejected 102 0) no_counts) refl
    ∷ says "stopped" (live gaps at_hard_limit) (counted (rejected 100 0) no_counts) refl
    ∷ says "34" (live (gaps ++ second_field) request) (refused (fault 34)) refl
    ∷ says "34 before 3, and before 100" (live_prescribe_traced_checked_of (policy_of policy) (input_of (with 36 (17 ∷ 39 ∷ []) request)) (gaps ++ last_byte))
    (refused (fault 34)) refl
    -- the second entry's place stands at byte 76
    ∷ says "an explanation has two entries, and no gap" (live_explained gaps (replicate 146 255))
    (answered (behind 2), with 76 (3 ∷ []) (explained bank policy request (replicate 146 255)).1) refl
    ∷ says "room for less than these two: 4" (live_explained gaps (replicate 143 255)) (refused (fault 4), replicate 143 255) refl
    ∷ says "34 before 4" (live_explained (gaps ++ last_byte) []) (refused (fault 34), []) refl
    ∷ says "slots found: of ids 1, 2, 3 and 0" (map (λ id. live_find_of id gaps) (1 ∷ 2 ∷ 3 ∷ 0 ∷ []))
    (answered (some 0) ∷ answered (some 3) ∷ answered none ∷ answered none ∷ []) refl
    ∷ says "an id that is listed twice: the first live one" (live_find_of 1 (free ++ model_two ++ model_one ++ other_one)) (answered (some 2)) refl
    ∷ says "34 before nowhere" (live_find_of 3 (gaps ++ last_byte)) (refused (fault 34)) refl
    ∷ says "utilities: of ids 2, 3 and 0" (map (utility gaps) (2 ∷ 3 ∷ 0 ∷ [])) (answered (pos 6200) ∷ refused (fault 7) ∷ refused (fault 7) ∷ []) refl
    ∷ []

-- the row of a batch, and what refuses it
batch_rows : List Row
unfolding rules
batch_rows =
    says "a batch: each request's own decision, and the rest of the row as it was"
    (live_batch_row (policy_of policy) gaps (input_of request ∷ input_of at_hard_limit ∷ []) (behind 7 ∷ behind 8 ∷ behind 9 ∷ []))
    (behind 2 ∷ rejected 100 0 ∷ behind 9 ∷ [])
    refl
    ∷ says "34 before 4" (live_batch_of (gaps ++ last_byte) (input_of request ∷ []) 0) (some (fault 34)) refl
    ∷ []

boundary_rows : List Row
unfolding rules
boundary_rows =
    says "(B) with two gaps" (would_win gaps 1)
    (boundary 1 (behind 2) false (lever 3 1000000 443333 (some 798) ∷ no_lever ∷ no_lever ∷ no_lever ∷ []) 1 26)
    refl
    ∷ says "(C) with two gaps" (live_decision_margin_of (policy_of policy) (input_of request) gaps)
    (boundary 2 (behind 2) false
    (lever 1 8000 7000 none ∷ lever 2 50 150 none ∷ lever 3 1000000 4330000 (some 1299) ∷ lever 4 8000 1000 none ∷ [])
    4
    95)
    refl
    ∷ says "what would make id 0 win: 5" (would_win gaps 0) (boundary_refused (fault 5)) refl
    ∷ says "34 before 5" (would_win (gaps ++ second_field) 0) (boundary_refused (fault 34)) refl
    ∷ says "no margin of nothing: 6" (live_decision_margin_of (policy_of policy) (input_of request) free) (boundary_refused (fault 6)) refl
    ∷ []
