-- Document 01, "The example bank": what the unit's program prints; and the answer to the question asked at the desk.
use Rattle.std.specs.Prelude.{ltb, ℕ, List, [], ◌∷◌, ◌++◌, map, length, take}
use Rattle.std.proofs.Math.Option.{Option, none, some}
use Rattle.rules.specs.Limits.{max_program_models}
use Rattle.rules.specs.Records.{Listed, input_of, records_in, listed_of}
use Rattle.rules.specs.Refused.{Fault, Faults, fault, room_faults, list_unless, Answer, answered, unless, refused, refuse_if}
use Rattle.rules.specs.Numbers.{Decision, Entry, Boundary}
use Rattle.rules.specs.Listing.{first_listed}
use Rattle.rules.specs.Count.{count_numbers}
use Rattle.rules.specs.Decide.{decision_of, counts_in, request_faults}
use Rattle.rules.specs.Win.{win_in}
use Rattle.rules.specs.Margin.{margin_in}
use Rattle.rules.specs.Validate.{catalog_faults}
use Rattle.rules.specs.Stored.{body_of, after_due, after_rounding, form_faults, stored_policy, stored_bank}
use Rattle.rules.specs.Text.{text, decimal, signed_decimal, line}
use Rattle.rules.specs.declared.records.KernelInput.{KernelInput}
use Rattle.rules.specs.declared.records.PolicySnapshot.{PolicySnapshot}
use Rattle.rules.specs.declared.decision.RejectionHistogram.{RejectionHistogram}

-- ---- lines

-- X2. The decision's fields, in their order
unfoldable pub decision_line : Decision → List ℕ
decision_line d =
    line (text "decision")
    (map decimal (d.sequence ∷ d.action ∷ d.reason ∷ d.model ∷ d.place ∷ d.cost ∷ [])
    ++ (signed_decimal d.utility ∷ decimal d.counterfactual ∷ signed_decimal d.counterfactual_utility ∷ [])
    ++ map decimal (d.evaluated ∷ d.eligible ∷ d.policy_epoch ∷ d.catalog_epoch ∷ []))

-- X2. The nine counts, in theirs
unfoldable pub counts_line : RejectionHistogram → List ℕ
counts_line c = line (text "rejected") (map decimal (count_numbers c))

-- X3. A lever: its number, today's value, the boundary, and the cost there or a dash
unfoldable pub cost_text : Option ℕ → List ℕ
cost_text none = text "-"
cost_text (some c) = decimal c

unfoldable pub lever_line : Entry → List ℕ
lever_line e = line (text "lever") (decimal e.lever ∷ decimal e.current ∷ decimal e.boundary ∷ cost_text e.cost ∷ [])

unfoldable pub lever_lines : List Entry → List ℕ
lever_lines [] = []
lever_lines (e ∷ es) = lever_line e ++ lever_lines es

-- the entries of an answer, without its unused rooms
abbrev pub entries_of : Boundary → List Entry
entries_of b = take b.count b.levers

-- X3. The passes that a question took
unfoldable pub passes_line : ℕ → List ℕ
passes_line n = line (text "passes") (decimal n ∷ [])

-- X3. Bad input prints this alone
unfoldable pub refused_line : Fault → List ℕ
refused_line f = line (text "refused") (decimal f.number ∷ [])

-- ---- the unit's program

-- X3, O3, F3. What its input says: tags 1, 2, 4 and 5 as in a stored form, tag 3
abbrev pub program_tags : List ℕ
program_tags = 1 ∷ 2 ∷ 4 ∷ 5 ∷ 3 ∷ []

abbrev pub program_models : List ℕ → List Listed
program_models input = listed_of (stored_bank input)

abbrev pub program_request : List ℕ → KernelInput
program_request input = input_of (body_of (after_due 5 (after_rounding input)))

-- N19, X3, O4, F4. Its tests: 20 to 23 and 25 over its fields, 19, validation, 3
unfoldable pub program_faults : List ℕ → Faults
program_faults input =
    form_faults program_tags input
    ++ refuse_if (ltb max_program_models (records_in (length (stored_bank input)))) (fault 19)
    ++ catalog_faults (stored_policy input) (program_models input)
    ++ request_faults (program_request input) 0

-- X3. Decision, counts and margin; a rejection has no margin, so it prints the first two lines
unfoldable pub unit_report : PolicySnapshot → KernelInput → List Listed → List ℕ
unit_report p q ls = decision_line (decision_of p q ls) ++ counts_line (counts_in p q ls) ++ lever_lines (entries_of (margin_in p q ls))

unfoldable pub unit_text : List ℕ → List ℕ
unit_text input = unless (program_faults input) refused_line (unit_report (stored_policy input) (program_request input) (program_models input))

-- ---- the question from the desk: what would make a model win

-- N5. After all else, an id that isn't listed
abbrev pub unlisted_faults : Option Listed → Faults
unlisted_faults none = fault 5 ∷ []
unlisted_faults (some l) = []

unfoldable pub ask_faults : ℕ → List ℕ → Faults
ask_faults id input = program_faults input ++ unlisted_faults (first_listed id (program_models input))

-- X3. The decision, the levers that win, the passes
unfoldable pub ask_report : Decision → Boundary → List ℕ
ask_report d b = decision_line d ++ lever_lines (entries_of b) ++ passes_line b.passes

abbrev pub asked_of : ℕ → List ℕ → Boundary
asked_of id input = win_in (stored_policy input) (program_request input) (program_models input) id

unfoldable pub ask_text : ℕ → List ℕ → List ℕ
ask_text id input = unless (ask_faults id input) refused_line (ask_report (asked_of id input).decision (asked_of id input))

-- ---- as calls

-- N4. A text goes to the start of a lent buffer: 4 where it doesn't fit; the answer is its length
unfoldable pub print_of : List ℕ → ℕ → Answer ℕ
print_of t room = unless (room_faults (length t) room) refused (answered (length t))

unfoldable pub print_buffer : List ℕ → List ℕ → List ℕ
print_buffer t buffer = list_unless (room_faults (length t) (length buffer)) t buffer
