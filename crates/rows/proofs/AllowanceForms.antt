-- Rows on tag 5 (document 02, f): in a stored form, and in the programs' input. Assumes nothing.
use Rattle.rules.proofs.Kit.{ℕ, ◌-◌, ◌^◌, refl, List, [], ◌∷◌, ◌++◌, map, replicate, take}
use Rattle.rules.specs.{Records.policy_of, Refused.fault, Refused.refused, Refused.answered, Printed.unit_text, Printed.ask_text, Words.ask_words}
use Rattle.rules.proofs.{Opened.rules, Rows.Row, Rows.says, AllowanceRows.tag_five, Example.model_two, Example.bank}
use Rattle.rows.proofs.{Printing.policy_field, Printing.bank_field, Printing.request_field, Printing.form, Printing.input, Printing.read}
use Rattle.rows.proofs.{Printing.marked, Printing.unread, Printing.is, RoundingRows.written, RoundingRows.tag_four, RoundingRows.input_with}
use Rattle.rows.proofs.{AllowanceRows.free, AllowanceRows.free_once, AllowanceRows.one}

-- the field with an allowance of 200, and after that of tag 4
abbrev tag : List ℕ
tag = tag_five 200

abbrev both_tags : List ℕ
both_tags = tag_four ++ tag

-- ---- stored forms

written_rows : List Row
unfolding rules
written_rows =
    says "an allowance, written: seven bytes more" (written (free 200) (replicate 138 255))
    (answered 137, form ++ (5 ∷ 4 ∷ 0 ∷ 200 ∷ 0 ∷ 0 ∷ 0 ∷ []) ++ (255 ∷ []))
    refl
    ∷ says "into just the room that it needs" (written (free 200) (replicate 137 255)) (answered 137, form ++ tag) refl
    ∷ says "one byte is missing: 4" (written (free 200) (replicate 136 255)) (refused (fault 4), replicate 136 255) refl
    ∷ says "with rounding once: eleven bytes more, tag 4 first" (written (free_once 200) (replicate 142 255))
    (answered 141, form ++ tag_four ++ tag ++ (255 ∷ []))
    refl
    ∷ says "into just the room that they need" (written (free_once 200) (replicate 141 255)) (answered 141, form ++ both_tags) refl
    ∷ says "one byte is missing: 4" (written (free_once 200) (replicate 140 255)) (refused (fault 4), replicate 140 255) refl
    ∷ says "the lowest byte first" (written (free 67305985) (replicate 137 255)) (answered 137, form ++ (5 ∷ 4 ∷ 0 ∷ 1 ∷ 2 ∷ 3 ∷ 4 ∷ [])) refl
    ∷ says "the smallest and the largest" (map (λ a. written (free a) (replicate 137 0)) (1 ∷ (2 ^ 32 - 1) ∷ []))
    ((answered 137, form ++ (5 ∷ 4 ∷ 0 ∷ 1 ∷ 0 ∷ 0 ∷ 0 ∷ [])) ∷ (answered 137, form ++ (5 ∷ 4 ∷ 0 ∷ 255 ∷ 255 ∷ 255 ∷ 255 ∷ [])) ∷ [])
    refl
    ∷ says "none, said in 35 bytes: no tag 5" (written (free 0) (replicate 130 255)) (answered 130, form) refl
    ∷ says "none, and once: tag 4 alone" (written (free_once 0) (replicate 134 255)) (answered 134, form ++ tag_four) refl
    ∷ []

read_rows : List Row
unfolding rules
read_rows =
    says "an allowance, read" (read (form ++ tag) (replicate 95 255))
    (answered (record { policy = policy_of (free 200); size = 94 }), bank ++ (255 ∷ []))
    refl
    ∷ says "both, read" (read (form ++ both_tags) (replicate 94 255)) (answered (record { policy = policy_of (free_once 200); size = 94 }), bank) refl
    ∷ says "the largest, read" (read (form ++ tag_five (2 ^ 32 - 1)) (replicate 94 255))
    (answered (record { policy = policy_of (free (2 ^ 32 - 1)); size = 94 }), bank)
    refl
    ∷ says "one byte is missing for the models: 4" (read (form ++ both_tags) (replicate 93 255)) (refused (fault 4), replicate 93 255) refl
    ∷ says "20 before 4" (read (form ++ (5 ∷ 4 ∷ [])) []) (refused (fault 20), []) refl
    ∷ says "25 before 4" (read (form ++ tag_five 0) []) (refused (fault 25), []) refl
    ∷ says "a byte 5 alone begins a field: 20" (marked (form ++ (5 ∷ []))) (unread 20) refl
    ∷ says "after tag 4 as well" (marked (form ++ tag_four ++ (5 ∷ []))) (unread 20) refl
    ∷ says "any other byte is one after the end: 21" (marked (form ++ (6 ∷ []))) (unread 21) refl
    ∷ says "after tag 4, and after tag 5" (map (λ s. marked (form ++ s ++ (6 ∷ []))) (tag_four ∷ tag ∷ both_tags ∷ []))
    (unread 21 ∷ unread 21 ∷ unread 21 ∷ [])
    refl
    ∷ says "a header and none of its body, and all but its last byte: 20" (map (λ n. marked (form ++ take n tag)) (3 ∷ 4 ∷ 6 ∷ []))
    (unread 20 ∷ unread 20 ∷ unread 20 ∷ [])
    refl
    ∷ says "a cut body of zeros: 20, before 25" (marked (form ++ (5 ∷ 4 ∷ 0 ∷ 0 ∷ 0 ∷ 0 ∷ []))) (unread 20) refl
    ∷ says "lengths of 3 and 5: 22" (map (λ n. marked (form ++ (5 ∷ n ∷ 0 ∷ replicate n 1))) (3 ∷ 5 ∷ [])) (unread 22 ∷ unread 22 ∷ []) refl
    ∷ says "no body: 22" (marked (form ++ (5 ∷ 0 ∷ 0 ∷ []))) (unread 22) refl
    ∷ says "a length of 260: 22" (marked (form ++ (5 ∷ 4 ∷ 1 ∷ replicate 260 1))) (unread 22) refl
    ∷ says "another length, and cut: 22, before 20" (marked (form ++ (5 ∷ 5 ∷ 0 ∷ 200 ∷ 0 ∷ 0 ∷ 0 ∷ []))) (unread 22) refl
    ∷ says "another length and a body of 0: 22, before 25" (marked (form ++ (5 ∷ 3 ∷ 0 ∷ 0 ∷ 0 ∷ 0 ∷ []))) (unread 22) refl
    ∷ says "a body of 0: 25" (marked (form ++ tag_five 0)) (unread 25) refl
    ∷ says "a body of 0, then a byte: 25, before 21" (marked (form ++ tag_five 0 ++ (5 ∷ []))) (unread 25) refl
    ∷ says "tag 4 with a body of 0, then tag 5 with 0: 23, before 25" (marked (form ++ (4 ∷ 1 ∷ 0 ∷ 0 ∷ tag_five 0))) (unread 23) refl
    ∷ says "tag 4, then tag 5 with 0: 25" (marked (form ++ tag_four ++ tag_five 0)) (unread 25) refl
    ∷ says "tag 4 with another length, then tag 5 with 0: 22" (marked (form ++ (4 ∷ 2 ∷ 0 ∷ 1 ∷ 1 ∷ tag_five 0))) (unread 22) refl
    ∷ says "tag 5, then tag 4: 21" (marked (form ++ tag ++ tag_four)) (unread 21) refl
    ∷ says "and a byte 4 after tag 5: 21" (marked (form ++ tag ++ (4 ∷ []))) (unread 21) refl
    ∷ says "tag 5 twice: 21" (marked (form ++ tag ++ tag)) (unread 21) refl
    ∷ says "tags 4, 5, 5 and 4, 5, 4: 21" (map (λ s. marked (form ++ both_tags ++ s)) (tag ∷ tag_four ∷ [])) (unread 21 ∷ unread 21 ∷ []) refl
    ∷ says "the catalogue again after tag 5: 21" (marked (form ++ tag ++ bank_field)) (unread 21) refl
    ∷ says "tag 5 before the catalogue: 21" (marked (policy_field ++ tag ++ bank_field)) (unread 21) refl
    ∷ says "a policy of 35 bytes in tag 1: 22" (marked (1 ∷ 35 ∷ 0 ∷ free 200 ++ bank_field)) (unread 22) refl
    ∷ []

-- ---- the programs

-- model 1 with quality 9,501 and 300 ms, beside model 2, and 60 ms free
abbrev late_input : List ℕ
late_input = policy_field ++ (2 ∷ 94 ∷ 0 ∷ one 9501 300 ++ model_two) ++ tag_five 60 ++ request_field

printed_rows : List Row
unfolding rules
printed_rows =
    says "the example with 200 ms free" (unit_text (input_with tag))
    (is "decision 42 2 2 2 1 300 6700 1 6200 2 2 7 3"
    ++ is "rejected 0 0 0 0 0 0 0 0 0"
    ++ is "lever 1 8000 7500 -"
    ++ is "lever 2 50 250 -"
    ++ is "lever 3 1000000 2665000 800"
    ++ is "lever 4 8000 1000 -")
    refl
    ∷ says "and once" (unit_text (input_with both_tags))
    (is "decision 42 2 2 2 1 300 6700 1 6200 2 2 7 3"
    ++ is "rejected 0 0 0 0 0 0 0 0 0"
    ++ is "lever 1 8000 7500 -"
    ++ is "lever 2 50 250 -"
    ++ is "lever 3 1000000 2666666 800"
    ++ is "lever 4 8000 1000 -")
    refl
    ∷ says "asked at the desk" (ask_text 1 (input_with tag))
    (is "decision 42 2 2 2 1 300 6700 1 6200 2 2 7 3" ++ is "lever 1 9000 9501 -" ++ is "lever 3 1000000 721333 1299" ++ is "passes 36")
    refl
    ∷ says "and once" (ask_text 1 (input_with both_tags))
    (is "decision 42 2 2 2 1 300 6700 1 6200 2 2 7 3" ++ is "lever 1 9000 9501 -" ++ is "lever 3 1000000 721666 1299" ++ is "passes 36")
    refl
    ∷ says "in words" (ask_words 1 (input_with tag))
    (is "Chosen: model 2, at a cost of 300 microunits, with a utility of 6700 microunits."
    ++ is "Model 1 is outranked by model 2: its utility of 6200 microunits is below 6700."
    ++ is "Price alone: it must fall by 27.9 percent or more; exactly, by 27.8667 percent, to 72.1333 percent of today's, where the request costs 1299 microunits."
    ++ is "Quality alone: 9000 basis points today; it must rise to at least 9501.")
    refl
    ∷ says "and once" (ask_words 1 (input_with both_tags))
    (is "Chosen: model 2, at a cost of 300 microunits, with a utility of 6700 microunits."
    ++ is "Model 1 is outranked by model 2: its utility of 6200 microunits is below 6700."
    ++ is "Price alone: it must fall by 27.9 percent or more; exactly, by 27.8334 percent, to 72.1666 percent of today's, where the request costs 1299 microunits."
    ++ is "Quality alone: 9000 basis points today; it must rise to at least 9501.")
    refl
    ∷ says "in words, a latency that must fall to the allowance" (ask_words 1 late_input)
    (is "Chosen: model 2, at a cost of 300 microunits, with a utility of 6700 microunits."
    ++ is "Model 1 is outranked by model 2: its utility of 4301 microunits is below 6700."
    ++ is "Price alone: no price, not even 0, would make it the choice."
    ++ is "Latency alone: 300 ms today; it must fall to at most 60 ms.")
    refl
    ∷ []

refused_rows : List Row
unfolding rules
refused_rows =
    says "a body of 0: 25" (unit_text (input_with (tag_five 0))) (is "refused 25") refl
    ∷ says "asked at the desk: 25" (ask_text 1 (input_with (tag_five 0))) (is "refused 25") refl
    ∷ says "in words: 25" (ask_words 1 (input_with (tag_five 0))) (is "refused 25" ++ is "The input's latency allowance, under tag 5, is 0.") refl
    ∷ says "after tag 4: 25" (unit_text (input_with (tag_four ++ tag_five 0))) (is "refused 25") refl
    ∷ says "after tag 4 with a body of 0: 23" (unit_text (input_with (4 ∷ 1 ∷ 0 ∷ 0 ∷ tag_five 0))) (is "refused 23") refl
    ∷ says "a body of 0, then nothing: 25" (unit_text (form ++ tag_five 0)) (is "refused 25") refl
    ∷ says "a body of 0, then a cut request: 25" (unit_text (form ++ tag_five 0 ++ (3 ∷ []))) (is "refused 25") refl
    ∷ says "no body: 22" (unit_text (input_with (5 ∷ 0 ∷ 0 ∷ []))) (is "refused 22") refl
    ∷ says "no body, then nothing: 22" (unit_text (form ++ (5 ∷ 0 ∷ 0 ∷ []))) (is "refused 22") refl
    ∷ says "a length of 3, then nothing: 22" (unit_text (form ++ (5 ∷ 3 ∷ 0 ∷ []))) (is "refused 22") refl
    ∷ says "a length of 260: 22" (unit_text (input_with (5 ∷ 4 ∷ 1 ∷ replicate 260 1))) (is "refused 22") refl
    ∷ says "a byte 5 at the end, and two: 20" (map (λ s. unit_text (form ++ s)) ((5 ∷ []) ∷ (5 ∷ 0 ∷ []) ∷ []))
    (is "refused 20" ∷ is "refused 20" ∷ [])
    refl
    ∷ says "a header at the end, and a cut body: 20" (map (λ n. unit_text (form ++ take n tag)) (3 ∷ 6 ∷ []))
    (is "refused 20" ∷ is "refused 20" ∷ [])
    refl
    ∷ says "a byte after a whole tag 5: 20, whatever it is" (map (λ b. unit_text (form ++ tag ++ (b ∷ []))) (3 ∷ 4 ∷ 5 ∷ 6 ∷ []))
    (is "refused 20" ∷ is "refused 20" ∷ is "refused 20" ∷ is "refused 20" ∷ [])
    refl
    ∷ says "no request after it: 21" (unit_text (form ++ tag)) (is "refused 21") refl
    ∷ says "tag 5, then tag 4: 21" (unit_text (input_with (tag ++ tag_four))) (is "refused 21") refl
    ∷ says "tag 5 twice: 21" (unit_text (input_with (tag ++ tag))) (is "refused 21") refl
    ∷ says "tags 4, 5, 5: 21" (unit_text (input_with (both_tags ++ tag))) (is "refused 21") refl
    ∷ says "tag 5 before the catalogue: 21" (unit_text (policy_field ++ tag ++ bank_field ++ request_field)) (is "refused 21") refl
    ∷ says "after the request: 21" (unit_text (input ++ tag)) (is "refused 21") refl
    ∷ says "25 before validation" (unit_text (policy_field ++ (2 ∷ 0 ∷ 0 ∷ []) ++ tag_five 0 ++ request_field)) (is "refused 25") refl
    ∷ says "an allowance, and no models: 11" (unit_text (policy_field ++ (2 ∷ 0 ∷ 0 ∷ []) ++ tag ++ request_field)) (is "refused 11") refl
    ∷ []
