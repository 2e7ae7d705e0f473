-- Rows on the stored form, the request form, and what the programs print. Assumes nothing.
use Rattle.rules.proofs.Kit.{ℕ, refl, List, [], ◌∷◌, ◌++◌, pos, negsuc, length, replicate, take}
use Prim.Native.String.{String}
use Rattle.rules.specs.{Records.policy_of, Records.input_of, Refused.Answer, Refused.refused, Refused.answered, Refused.fault}
use Rattle.rules.specs.{Numbers.StoredPolicy, Stored.write_stored_of, Stored.write_stored_buffer, Stored.read_stored_of, Stored.read_stored_buffer}
use Rattle.rules.specs.{Stored.write_request_of, Stored.write_request_buffer, Stored.read_request_of, Text.text, Text.decimal, Printed.decision_line}
use Rattle.rules.specs.{Printed.counts_line, Printed.unit_text, Printed.ask_text, Printed.print_of, Printed.print_buffer}
use Rattle.rules.proofs.{Opened.rules, Rows.Row, Rows.says, Example.model_one, Example.bank, Example.policy, Example.request}
use Rattle.rules.proofs.{Example.with, Example.uneven, Example.at_hard_limit, Example.decision, Example.counts}

-- the example's three fields
abbrev pub policy_field : List ℕ
policy_field = 1 ∷ 30 ∷ 0 ∷ policy

abbrev pub bank_field : List ℕ
bank_field = 2 ∷ 94 ∷ 0 ∷ bank

abbrev pub request_field : List ℕ
request_field = 3 ∷ 70 ∷ 0 ∷ request

abbrev pub form : List ℕ
form = policy_field ++ bank_field

-- ---- stored forms

-- writing and reading: the answer, and the buffer at exit
abbrev written : List ℕ → List ℕ → Answer ℕ × List ℕ
written b buffer = (write_stored_of (policy_of policy) b (length buffer), write_stored_buffer (policy_of policy) b buffer)

abbrev pub read : List ℕ → List ℕ → Answer StoredPolicy × List ℕ
read s buffer = (read_stored_of s (length buffer), read_stored_buffer s buffer)

-- reading into a hundred bytes of 255, and a refusal that leaves them
abbrev pub marked : List ℕ → Answer StoredPolicy × List ℕ
marked s = read s (replicate 100 255)

abbrev pub unread : ℕ → Answer StoredPolicy × List ℕ
unread n = (refused (fault n), replicate 100 255)

stored_rows : List Row
unfolding rules
stored_rows =
    says "the example written, with a byte to spare" (written bank (replicate 131 255)) (answered 130, form ++ (255 ∷ [])) refl
    ∷ says "1 before 4" (written uneven []) (refused (fault 1), []) refl
    ∷ says "one byte is missing: 4" (written bank (replicate 129 255)) (refused (fault 4), replicate 129 255) refl
    ∷ says "no models written" (written [] (replicate 36 255)) (answered 36, policy_field ++ (2 ∷ 0 ∷ 0 ∷ [])) refl
    ∷ says "the example read, with a byte to spare" (read form (replicate 95 255))
    (answered (record { policy = policy_of policy; size = 94 }), bank ++ (255 ∷ []))
    refl
    ∷ says "a byte after the end: 21, and nothing is copied" (marked (form ++ (0 ∷ []))) (unread 21) refl
    ∷ says "21 before 4" (read (form ++ (0 ∷ [])) []) (refused (fault 21), []) refl
    ∷ says "one byte is missing for the models: 4" (read form (replicate 93 255)) (refused (fault 4), replicate 93 255) refl
    ∷ says "no byte: 21" (marked []) (unread 21) refl
    ∷ says "a cut header, whatever its tag: 20" (marked (9 ∷ [])) (unread 20) refl
    ∷ says "another tag: 21" (marked (9 ∷ 0 ∷ 0 ∷ [])) (unread 21) refl
    ∷ says "a wrong length before a cut body: 22" (marked (1 ∷ 29 ∷ 0 ∷ [])) (unread 22) refl
    ∷ says "a cut body: 20" (marked (1 ∷ 30 ∷ 0 ∷ [])) (unread 20) refl
    ∷ says "a policy alone: 21" (marked policy_field) (unread 21) refl
    ∷ says "a policy twice: 21" (marked (policy_field ++ policy_field)) (unread 21) refl
    ∷ says "models of 95 bytes: 22" (marked (policy_field ++ (2 ∷ 95 ∷ 0 ∷ bank))) (unread 22) refl
    ∷ says "models of 65,519 bytes: 22" (marked (policy_field ++ (2 ∷ 239 ∷ 255 ∷ []))) (unread 22) refl
    ∷ says "1,394 models, cut: 20" (marked (policy_field ++ (2 ∷ 238 ∷ 255 ∷ bank))) (unread 20) refl
    ∷ []

-- ---- request forms

-- the request written into so much room
abbrev requested : ℕ → Answer ℕ × List ℕ
requested room = (write_request_of (input_of request) room, write_request_buffer (input_of request) (replicate room 255))

request_rows : List Row
unfolding rules
request_rows =
    says "the request written, with a byte to spare" (requested 74) (answered 73, request_field ++ (255 ∷ [])) refl
    ∷ says "one byte is missing for the request: 4" (requested 72) (refused (fault 4), replicate 72 255) refl
    ∷ says "the request read" (read_request_of request_field) (answered (input_of request)) refl
    ∷ says "a cut request: 20" (read_request_of (take 72 request_field)) (refused (fault 20)) refl
    ∷ says "a request twice: 21" (read_request_of (request_field ++ request_field)) (refused (fault 21)) refl
    ∷ says "a request of 69 bytes: 22" (read_request_of (3 ∷ 69 ∷ 0 ∷ request)) (refused (fault 22)) refl
    ∷ []

-- ---- what is printed

-- a line of text
abbrev pub is : String → List ℕ
is s = text s ++ (10 ∷ [])

abbrev pub input : List ℕ
input = form ++ request_field

abbrev pub input_of_bank : List ℕ → List ℕ → List ℕ
input_of_bank b q = policy_field ++ (2 ∷ length b ∷ 0 ∷ b) ++ (3 ∷ 70 ∷ 0 ∷ q)

abbrev pub risky : List ℕ
risky = with 36 (17 ∷ 39 ∷ []) request

-- model 1 of provider 64
abbrev pub unknown : List ℕ
unknown = with 4 (64 ∷ []) model_one

-- a text of 11 bytes put into so much room
abbrev printed : ℕ → Answer ℕ × List ℕ
printed room = (print_of (is "refused 21") room, print_buffer (is "refused 21") (replicate room 255))

printed_rows : List Row
unfolding rules
printed_rows =
    says "document 01's six lines" (unit_text input)
    (is "decision 42 2 2 2 1 300 6200 1 5200 2 2 7 3"
    ++ is "rejected 0 0 0 0 0 0 0 0 0"
    ++ is "lever 1 8000 7000 -"
    ++ is "lever 2 50 150 -"
    ++ is "lever 3 1000000 4330000 1299"
    ++ is "lever 4 8000 1000 -")
    refl
    ∷ says "a rejection's two lines" (unit_text (input_of_bank bank at_hard_limit))
    (is "decision 42 3 100 0 65535 0 0 0 0 0 0 7 3" ++ is "rejected 0 0 0 0 0 0 0 0 0")
    refl
    ∷ says "the form's faults before validation" (unit_text (input_of_bank unknown risky ++ (0 ∷ []))) (is "refused 21") refl
    ∷ says "validation before 3" (unit_text (input_of_bank unknown risky)) (is "refused 13") refl
    ∷ says "3" (unit_text (input_of_bank bank risky)) (is "refused 3") refl
    ∷ says "no models: 11" (unit_text (input_of_bank [] request)) (is "refused 11") refl
    ∷ says "no input: 21" (unit_text []) (is "refused 21") refl
    ∷ says "one byte: 20" (unit_text (1 ∷ [])) (is "refused 20") refl
    ∷ says "no request: 21" (unit_text form) (is "refused 21") refl
    ∷ says "(B) asked at the desk" (ask_text 1 input)
    (is "decision 42 2 2 2 1 300 6200 1 5200 2 2 7 3" ++ is "lever 3 1000000 443333 798" ++ is "passes 26")
    refl
    ∷ says "the chosen model asked for" (ask_text 2 input) (is "decision 42 2 2 2 1 300 6200 1 5200 2 2 7 3" ++ is "passes 1") refl
    ∷ says "not listed: 5" (ask_text 3 input) (is "refused 5") refl
    ∷ says "3 before 5" (ask_text 3 (input_of_bank bank risky)) (is "refused 3") refl
    ∷ says "a text with a byte to spare" (printed 12) (answered 11, is "refused 21" ++ (255 ∷ [])) refl
    ∷ says "a text with a byte too little: 4" (printed 10) (refused (fault 4), replicate 10 255) refl
    ∷ says "a decision's numbers, each in its own place, with its sign" (decision_line (decision 1 2 3 4 5 6 (negsuc 6) 8 (pos 9) 10 11 12 13))
    (is "decision 1 2 3 4 5 6 -7 8 9 10 11 12 13")
    refl
    ∷ says "nine counts, each in its own place" (counts_line (counts 1 2 3 4 5 6 7 8 9)) (is "rejected 1 2 3 4 5 6 7 8 9") refl
    ∷ says "0 in decimal" (decimal 0) (text "0") refl
    ∷ says "2 ^ 64 - 1 in decimal" (decimal 18446744073709551615) (text "18446744073709551615") refl
    ∷ []
