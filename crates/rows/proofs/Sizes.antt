-- Rows on the largest banks that a stored form holds and that the programs take. Assumes nothing.
use Rattle.rules.proofs.Kit.{ℕ, ◌*◌, refl, List, [], ◌∷◌, ◌++◌, length, replicate}
use Rattle.rules.specs.{Bytes.bytes_of, Records.policy_of, Refused.Answer, Refused.refused, Refused.answered, Refused.fault, Stored.write_stored_of}
use Rattle.rules.specs.{Printed.unit_text}
use Rattle.rules.proofs.{Opened.rules, Rows.Row, Rows.says, Example.policy, Example.with, AllowanceRows.allowing, AllowanceRows.tag_five}
use Rattle.rows.proofs.{Printing.request_field, Printing.is}

-- so many records of zeros, written into so much room under a policy
abbrev written : List ℕ → ℕ → ℕ → Answer ℕ
written p n room = write_stored_of (policy_of p) (replicate (47 * n) 0) room

-- one that rounds once, and one that has an allowance besides
abbrev once : List ℕ
once = policy ++ (1 ∷ [])

abbrev both : List ℕ
both = with 30 (1 ∷ []) (allowing 1 policy)

stored_rows : List Row
unfolding rules
stored_rows =
    says "1,394 models and no room: 4" (written policy 1394 0) (refused (fault 4)) refl
    ∷ says "1,395 models: 18 before 4" (written policy 1395 0) (refused (fault 18)) refl
    ∷ says "1,394 models, once, one byte is missing: 4" (written once 1394 65557) (refused (fault 4)) refl
    ∷ says "which fit" (written once 1394 65558) (answered 65558) refl
    ∷ says "1,394 models, once, with an allowance, one byte is missing: 4" (written both 1394 65564) (refused (fault 4)) refl
    ∷ says "which fit" (written both 1394 65565) (answered 65565) refl
    ∷ []

-- so many records of zeros, in a program's input with a policy that is refused with 10, and what stands after the catalogue
abbrev refusable : ℕ → List ℕ → List ℕ
refusable n after = (1 ∷ 30 ∷ 0 ∷ with 16 (17 ∷ 39 ∷ []) policy) ++ (2 ∷ bytes_of 2 (47 * n) ++ replicate (47 * n) 0) ++ after ++ request_field

program_rows : List Row
unfolding rules
program_rows =
    says "900 models: validation" (unit_text (refusable 900 [])) (is "refused 10") refl
    ∷ says "901 models: 19 before validation" (unit_text (refusable 901 [])) (is "refused 19") refl
    ∷ says "23 before 19" (unit_text (refusable 901 (4 ∷ 1 ∷ 0 ∷ 0 ∷ []))) (is "refused 23") refl
    ∷ says "25 before 19" (unit_text (refusable 901 (tag_five 0))) (is "refused 25") refl
    ∷ says "the longest input whose fields are sound" (length (refusable 1394 (4 ∷ 1 ∷ 0 ∷ 1 ∷ tag_five 1))) 65638 refl
    ∷ []
