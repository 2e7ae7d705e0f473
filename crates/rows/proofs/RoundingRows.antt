-- Rows on rounding once (document 02, d): the example under both rules, a policy's bytes, and tag 4 in a stored form and in the programs' input. The
-- cost itself, at its edges, stands in `rules/proofs/OnceRows`. Assumes nothing.
use Rattle.rules.proofs.Kit.{ℕ, refl, List, [], ◌∷◌, ◌++◌, map, none, some, pos, length, replicate, false}
use Rattle.rules.specs.{Bytes.number_at, Records.input_of, Records.policy_of, Records.policy_in_bytes, Refused.fault}
use Rattle.rules.specs.{Refused.Answer}
use Rattle.rules.specs.{Refused.refused, Refused.answered, Decide.utility_for_model_of, Stored.read_policy_of, Levers.boundary_refused}
use Rattle.rules.specs.{Stored.write_stored_of, Stored.write_stored_buffer, Printed.unit_text, Printed.ask_text, Words.ask_words}
use Rattle.rules.specs.declared.records.Rounding.TheVariants.{Apart, Once}
use Rattle.rules.proofs.{Opened.rules, Rows.Row, Rows.says, Rows.decided, Rows.explained, Rows.would_win, Rows.margin, Example.bank, OnceRows.at}
use Rattle.rules.proofs.{OnceRows.tokens, Example.named, Example.policy, Example.request, Example.with, Example.decision, Example.choice}
use Rattle.rules.proofs.{Example.rejected, Example.counts, Example.no_counts, Example.counted, Example.lever, Example.no_lever, Example.boundary}
use Rattle.rows.proofs.{Printing.policy_field, Printing.bank_field, Printing.request_field, Printing.form, Printing.input, Printing.read}
use Rattle.rows.proofs.{Printing.marked}
use Rattle.rows.proofs.{Printing.unread, Printing.is}

-- the example's policy, rounding once
abbrev once : List ℕ
once = policy ++ (1 ∷ [])

-- ---- what follows the cost

-- (G), with a budget of 1
abbrev one_each : List ℕ
one_each = with 28 (1 ∷ replicate 7 0) (tokens 1 1)

-- two models that cost 2 apart, of which the second costs 1 once
abbrev two_alike : List ℕ
two_alike = at 1000000 1000000 ++ named 2 (at 1 1)

-- the second of them, with a risk ceiling of 900
abbrev low_ceiling : List ℕ
low_ceiling = with 8 (132 ∷ 3 ∷ []) (named 2 (at 1 1))

decision_rows : List Row
unfolding rules
decision_rows =
    says "(G) once: cost 1" (decided (at 1 1) once (tokens 1 1)) (counted (decision 42 1 1 1 0 1 (pos 6999) 0 (pos 0) 1 1 7 3) no_counts) refl
    ∷ says "(G) with a budget of 1: over it apart" (decided (at 1 1) policy one_each) (counted (rejected 108 1) (counts 0 0 0 0 0 0 0 1 0)) refl
    ∷ says "and within it once" (decided (at 1 1) once one_each) (counted (decision 42 1 1 1 0 1 (pos 6999) 0 (pos 0) 1 1 7 3) no_counts) refl
    ∷ says "a 31st byte of 0: apart" (decided (at 1 1) (policy ++ (0 ∷ [])) one_each) (counted (rejected 108 1) (counts 0 0 0 0 0 0 0 1 0)) refl
    ∷ says "the utility of one model"
    (map (λ p. utility_for_model_of (policy_of p) (input_of (tokens 1 1)) 1 (at 1 1)) (policy ∷ once ∷ []))
    (answered (pos 6998) ∷ answered (pos 6999) ∷ [])
    refl
    ∷ says "the utility of one model, by a budget of 1"
    (map (λ p. utility_for_model_of (policy_of p) (input_of one_each) 1 (at 1 1)) (policy ∷ once ∷ []))
    (refused (fault 7) ∷ answered (pos 6999) ∷ [])
    refl
    -- the cost stands at offset 40, beside what is over the budget at offset 8
    ∷ says "the cost that is explained"
    (map (λ p. number_at (explained (at 1 1) p (tokens 1 1) (replicate 72 0)).1 40 8) (policy ∷ once ∷ []))
    (2 ∷ 1 ∷ [])
    refl
    ∷ says "the cost that is over a budget of 0"
    (map (λ p. number_at (explained (at 1 1) p (with 28 (replicate 8 0) (tokens 1 1)) (replicate 72 0)).1 8 16) (policy ∷ once ∷ []))
    (2 ∷ 1 ∷ [])
    refl
    ∷ says "a utility of 0 apart" (decided (at 1 1) policy (with 20 (229 ∷ 4 ∷ []) (tokens 1 1))) (counted (rejected 109 1) (counts 0 0 0 0 0 0 0 0 1)) refl
    ∷ says "and of 1 once" (decided (at 1 1) once (with 20 (229 ∷ 4 ∷ []) (tokens 1 1)))
    (counted (decision 42 1 1 1 0 1 (pos 1) 0 (pos 0) 1 1 7 3) no_counts)
    refl
    ∷ says "the first of two apart" (decided two_alike policy (tokens 1 1))
    (counted (decision 42 1 1 1 0 2 (pos 6998) 2 (pos 6998) 2 2 7 3) no_counts)
    refl
    ∷ says "and the second once" (decided two_alike once (tokens 1 1))
    (counted (decision 42 2 2 2 1 1 (pos 6999) 1 (pos 6998) 2 2 7 3) no_counts)
    refl
    ∷ says "(A) once: every product is whole, and nothing changes" (decided bank once request) (counted choice no_counts) refl
    ∷ []

boundary_rows : List Row
unfolding rules
boundary_rows =
    says "(B) once: 1,800 times the scale by 10 ^ 6, at most 799" (would_win bank once request 1)
    (boundary 1 choice false (lever 3 1000000 443888 (some 799) ∷ no_lever ∷ no_lever ∷ no_lever ∷ []) 1 26)
    refl
    ∷ says "(C) once: 300 times the scale by 10 ^ 6, at most 1,300" (margin bank once request)
    (boundary 2 choice false
    (lever 1 8000 7000 none ∷ lever 2 50 150 none ∷ lever 3 1000000 4333333 (some 1300) ∷ lever 4 8000 1000 none ∷ [])
    4
    95)
    refl
    ∷ says "(G) with a budget of 1, apart: nothing is chosen, 6" (margin (at 1 1) policy one_each) (boundary_refused (fault 6)) refl
    ∷ says "(G) with a budget of 1, once: its margin" (margin (at 1 1) once one_each)
    (boundary 1 (decision 42 1 1 1 0 1 (pos 6999) 0 (pos 0) 1 1 7 3) false
    (lever 1 9000 5000 none ∷ lever 2 100 799 none ∷ lever 4 8000 1000 none ∷ no_lever ∷ [])
    3
    64)
    refl
    ∷ says "(G) with a budget of 1, apart: its price must fall" (would_win (at 1 1) policy one_each 1)
    (boundary 1 (rejected 108 1) false (lever 3 1000000 999999 (some 0) ∷ no_lever ∷ no_lever ∷ no_lever ∷ []) 1 26)
    refl
    ∷ says "(G) with a budget of 1, once: chosen already" (would_win (at 1 1) once one_each 1)
    (boundary 1 (decision 42 1 1 1 0 1 (pos 6999) 0 (pos 0) 1 1 7 3) false (no_lever ∷ no_lever ∷ no_lever ∷ no_lever ∷ []) 0 1)
    refl
    ∷ says "two that cost 2, apart: what would make the second win" (would_win two_alike policy (tokens 1 1) 2)
    (boundary 2 (decision 42 1 1 1 0 2 (pos 6998) 2 (pos 6998) 2 2 7 3) false
    (lever 1 9000 9001 none ∷ lever 2 100 99 none ∷ lever 3 1000000 999999 (some 0) ∷ no_lever ∷ [])
    3
    43)
    refl
    ∷ says "two, once: the second is chosen already" (would_win two_alike once (tokens 1 1) 2)
    (boundary 2 (decision 42 2 2 2 1 1 (pos 6999) 1 (pos 6998) 2 2 7 3) false (no_lever ∷ no_lever ∷ no_lever ∷ no_lever ∷ []) 0 1)
    refl
    ∷ says "two, apart: the first is chosen already" (would_win two_alike policy (tokens 1 1) 1)
    (boundary 1 (decision 42 1 1 1 0 2 (pos 6998) 2 (pos 6998) 2 2 7 3) false (no_lever ∷ no_lever ∷ no_lever ∷ no_lever ∷ []) 0 1)
    refl
    ∷ says "two, once: what would make the first win" (would_win two_alike once (tokens 1 1) 1)
    (boundary 1 (decision 42 2 2 2 1 1 (pos 6999) 1 (pos 6998) 2 2 7 3) false
    (lever 1 9000 9002 none ∷ lever 2 100 99 none ∷ lever 3 1000000 500000 (some 1) ∷ no_lever ∷ [])
    3
    42)
    refl
    ∷ says "two, apart: the first one's margin" (margin two_alike policy (tokens 1 1))
    (boundary 1 (decision 42 1 1 1 0 2 (pos 6998) 2 (pos 6998) 2 2 7 3) false
    (lever 1 9000 9000 none ∷ lever 2 100 100 none ∷ lever 3 1000000 1000000 (some 2) ∷ lever 4 8000 1000 none ∷ [])
    4
    94)
    refl
    ∷ says "two, once: the second one's margin" (margin two_alike once (tokens 1 1))
    (boundary 2 (decision 42 2 2 2 1 1 (pos 6999) 1 (pos 6998) 2 2 7 3) false
    (lever 1 9000 8999 none ∷ lever 2 100 100 none ∷ lever 4 8000 1000 none ∷ no_lever ∷ [])
    3
    63)
    refl
    ∷ says "two, the first switched off, apart: switched on, it would win" (would_win (with 10 (0 ∷ []) two_alike) policy (tokens 1 1) 1)
    (boundary 1 (decision 42 2 2 2 1 2 (pos 6998) 0 (pos 0) 2 1 7 3) false (lever 5 0 1 none ∷ no_lever ∷ no_lever ∷ no_lever ∷ []) 1 2)
    refl
    ∷ says "two, the first switched off, once: it would not" (would_win (with 10 (0 ∷ []) two_alike) once (tokens 1 1) 1)
    (boundary 1 (decision 42 2 2 2 1 1 (pos 6999) 0 (pos 0) 2 1 7 3) false (no_lever ∷ no_lever ∷ no_lever ∷ no_lever ∷ []) 0 2)
    refl
    ∷ says "two, the second with a ceiling below the risk, apart: no ceiling makes it win" (would_win (at 1000000 1000000 ++ low_ceiling) policy (tokens 1 1) 2)
    (boundary 2 (decision 42 1 1 1 0 2 (pos 6998) 0 (pos 0) 2 1 7 3) false (no_lever ∷ no_lever ∷ no_lever ∷ no_lever ∷ []) 0 5)
    refl
    ∷ says "two, the second with a ceiling below the risk, once: 1,000 does" (would_win (at 1000000 1000000 ++ low_ceiling) once (tokens 1 1) 2)
    (boundary 2 (decision 42 1 1 1 0 2 (pos 6998) 0 (pos 0) 2 1 7 3) false (lever 4 900 1000 none ∷ no_lever ∷ no_lever ∷ no_lever ∷ []) 1 19)
    refl
    -- at 999,999 millionths both prices of 1 are rounded down to 0, before anything is added
    ∷ says "each scaled price is rounded down by itself" (would_win (at 1 1) once (with 28 (1 ∷ replicate 7 0) (tokens 1000000 1000000)) 1)
    (boundary 1 (rejected 108 1) false (lever 3 1000000 999999 (some 0) ∷ no_lever ∷ no_lever ∷ no_lever ∷ []) 1 26)
    refl
    ∷ []

-- ---- a policy's bytes

policy_rows : List Row
unfolding rules
policy_rows =
    says "30 bytes" (read_policy_of policy) (answered (policy_of policy)) refl
    ∷ says "29 bytes: 22" (read_policy_of (replicate 29 0)) (refused (fault 22)) refl
    ∷ says "no byte: 22" (read_policy_of []) (refused (fault 22)) refl
    ∷ says "32 bytes: 22, before 23" (read_policy_of (policy ++ (2 ∷ 0 ∷ []))) (refused (fault 22)) refl
    ∷ says "a 31st byte of 0 is that of 30" (read_policy_of (policy ++ (0 ∷ []))) (answered (policy_of policy)) refl
    ∷ says "and of 1" (read_policy_of once) (answered (policy_of once)) refl
    ∷ says "and of 2: 23" (read_policy_of (policy ++ (2 ∷ []))) (refused (fault 23)) refl
    ∷ says "and of 255: 23" (read_policy_of (policy ++ (255 ∷ []))) (refused (fault 23)) refl
    ∷ says "how they round" (map (λ s. (policy_of s).rounding) (policy ∷ (policy ++ (0 ∷ [])) ∷ once ∷ [])) (Apart ∷ Apart ∷ Once ∷ []) refl
    ∷ says "handed back: 35 bytes, the last four 0" (policy_in_bytes (policy_of once)) (once ++ replicate 4 0) refl
    ∷ []

-- ---- stored forms

-- writing the bank under a policy
abbrev pub written : List ℕ → List ℕ → Answer ℕ × List ℕ
written p buffer = (write_stored_of (policy_of p) bank (length buffer), write_stored_buffer (policy_of p) bank buffer)

abbrev pub tag_four : List ℕ
tag_four = 4 ∷ 1 ∷ 0 ∷ 1 ∷ []

form_rows : List Row
unfolding rules
form_rows =
    says "once, written: four bytes more" (written once (replicate 135 255)) (answered 134, form ++ tag_four ++ (255 ∷ [])) refl
    ∷ says "once, into just the room that it needs" (written once (replicate 134 255)) (answered 134, form ++ tag_four) refl
    ∷ says "one byte is missing for them: 4" (written once (replicate 133 255)) (refused (fault 4), replicate 133 255) refl
    ∷ says "apart, said by a 31st byte: no tag 4" (written (policy ++ (0 ∷ [])) (replicate 130 255)) (answered 130, form) refl
    ∷ says "once, read" (read (form ++ tag_four) (replicate 95 255)) (answered (record { policy = policy_of once; size = 94 }), bank ++ (255 ∷ [])) refl
    ∷ says "once, one byte is missing for the models: 4" (read (form ++ tag_four) (replicate 93 255)) (refused (fault 4), replicate 93 255) refl
    ∷ says "20 before 4" (read (form ++ (4 ∷ 1 ∷ [])) []) (refused (fault 20), []) refl
    ∷ says "23 before 4" (read (form ++ (4 ∷ 1 ∷ 0 ∷ 0 ∷ [])) []) (refused (fault 23), []) refl
    ∷ says "a byte 4 alone begins a field: 20" (marked (form ++ (4 ∷ []))) (unread 20) refl
    ∷ says "any other byte is one after the end: 21" (marked (form ++ (3 ∷ []))) (unread 21) refl
    ∷ says "a header without its body: 20" (marked (form ++ (4 ∷ 1 ∷ 0 ∷ []))) (unread 20) refl
    ∷ says "another length: 22, before 20" (marked (form ++ (4 ∷ 2 ∷ 0 ∷ 1 ∷ []))) (unread 22) refl
    ∷ says "no body: 22" (marked (form ++ (4 ∷ 0 ∷ 0 ∷ []))) (unread 22) refl
    ∷ says "another length and another body: 22, before 23" (marked (form ++ (4 ∷ 2 ∷ 0 ∷ 0 ∷ 0 ∷ []))) (unread 22) refl
    ∷ says "a length of 257: 22" (marked (form ++ (4 ∷ 1 ∷ 1 ∷ replicate 257 1))) (unread 22) refl
    ∷ says "a body of 0: 23" (marked (form ++ (4 ∷ 1 ∷ 0 ∷ 0 ∷ []))) (unread 23) refl
    ∷ says "a body of 2: 23" (marked (form ++ (4 ∷ 1 ∷ 0 ∷ 2 ∷ []))) (unread 23) refl
    ∷ says "a body of 0, then a byte: 23, before 21" (marked (form ++ (4 ∷ 1 ∷ 0 ∷ 0 ∷ 0 ∷ []))) (unread 23) refl
    ∷ says "tag 4 twice: 21" (marked (form ++ tag_four ++ tag_four)) (unread 21) refl
    ∷ says "and a byte 4 after a whole one: 21" (marked (form ++ tag_four ++ (4 ∷ []))) (unread 21) refl
    ∷ says "tag 4 before the catalogue: 21" (marked (policy_field ++ tag_four ++ bank_field)) (unread 21) refl
    ∷ says "a policy of 31 bytes in tag 1: 22" (marked (1 ∷ 31 ∷ 0 ∷ once ++ bank_field)) (unread 22) refl
    ∷ []

-- ---- the programs

-- their input, with what stands between the catalogue and the request
abbrev pub input_with : List ℕ → List ℕ
input_with fields = form ++ fields ++ request_field

program_rows : List Row
unfolding rules
program_rows =
    says "the example once" (unit_text (input_with tag_four))
    (is "decision 42 2 2 2 1 300 6200 1 5200 2 2 7 3"
    ++ is "rejected 0 0 0 0 0 0 0 0 0"
    ++ is "lever 1 8000 7000 -"
    ++ is "lever 2 50 150 -"
    ++ is "lever 3 1000000 4333333 1300"
    ++ is "lever 4 8000 1000 -")
    refl
    ∷ says "asked at the desk, once" (ask_text 1 (input_with tag_four))
    (is "decision 42 2 2 2 1 300 6200 1 5200 2 2 7 3" ++ is "lever 3 1000000 443888 799" ++ is "passes 26")
    refl
    ∷ says "in words, once" (ask_words 1 (input_with tag_four))
    (is "Chosen: model 2, at a cost of 300 microunits, with a utility of 6200 microunits."
    ++ is "Model 1 is outranked by model 2: its utility of 5200 microunits is below 6200."
    ++ is "Price alone: it must fall by 55.7 percent or more; exactly, by 55.6112 percent, to 44.3888 percent of today's, where the request costs 799 microunits.")
    refl
    ∷ says "a body of 0: 23" (unit_text (input_with (4 ∷ 1 ∷ 0 ∷ 0 ∷ []))) (is "refused 23") refl
    ∷ says "no body: 22" (unit_text (input_with (4 ∷ 0 ∷ 0 ∷ []))) (is "refused 22") refl
    ∷ says "a body of 0, then nothing: 23" (unit_text (form ++ (4 ∷ 1 ∷ 0 ∷ 0 ∷ []))) (is "refused 23") refl
    ∷ says "a length of 2, then nothing: 22" (unit_text (form ++ (4 ∷ 2 ∷ 0 ∷ []))) (is "refused 22") refl
    ∷ says "a body of 0, then a cut request: 23" (unit_text (form ++ (4 ∷ 1 ∷ 0 ∷ 0 ∷ 3 ∷ []))) (is "refused 23") refl
    ∷ says "asked at the desk: 23" (ask_text 1 (input_with (4 ∷ 1 ∷ 0 ∷ 0 ∷ []))) (is "refused 23") refl
    ∷ says "in words: 23" (ask_words 1 (input_with (4 ∷ 1 ∷ 0 ∷ 0 ∷ [])))
    (is "refused 23" ++ is "The input's rounding, under tag 4, is not 1.")
    refl
    ∷ says "two bytes of another tag: 20" (unit_text (form ++ (6 ∷ 0 ∷ []))) (is "refused 20") refl
    ∷ says "three: 21" (unit_text (form ++ (6 ∷ 0 ∷ 0 ∷ []))) (is "refused 21") refl
    ∷ says "a byte 4 after a whole tag 4: 20" (unit_text (form ++ tag_four ++ (4 ∷ []))) (is "refused 20") refl
    ∷ says "tag 4 before the catalogue: 21" (unit_text (policy_field ++ tag_four ++ bank_field ++ request_field)) (is "refused 21") refl
    ∷ says "a byte 4 at the end: 20, as any byte where the request is due" (unit_text (form ++ (4 ∷ []))) (is "refused 20") refl
    ∷ says "a header of tag 4 at the end: 20" (unit_text (form ++ (4 ∷ 1 ∷ 0 ∷ []))) (is "refused 20") refl
    ∷ says "no request after it: 21" (unit_text (form ++ tag_four)) (is "refused 21") refl
    ∷ says "twice: 21" (unit_text (input_with (tag_four ++ tag_four))) (is "refused 21") refl
    ∷ says "after the request: 21" (unit_text (input ++ tag_four)) (is "refused 21") refl
    ∷ says "23 before validation" (unit_text (policy_field ++ (2 ∷ 0 ∷ 0 ∷ []) ++ (4 ∷ 1 ∷ 0 ∷ 2 ∷ []) ++ request_field)) (is "refused 23") refl
    ∷ says "once, and no models: 11" (unit_text (policy_field ++ (2 ∷ 0 ∷ 0 ∷ []) ++ tag_four ++ request_field)) (is "refused 11") refl
    ∷ []
