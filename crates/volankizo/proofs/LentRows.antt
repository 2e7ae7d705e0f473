-- Rows on a policy's bytes (document 02, d and f): what refuses them where they are lent beside others, a request's length first, then the policy's,
-- then how it rounds, all before the bank, and no allowance; and how they are handed back. Assumes nothing.
use Rattle.rules.proofs.Kit.{ℕ, refl, List, [], ◌∷◌, ◌++◌, map, Option, some, take, replicate}
use Rattle.rules.specs.{Records.policy_of, Refused.Fault, Refused.fault, Refused.first_fault, Refused.size_faults, Stored.stored_form}
use Rattle.rules.proofs.{Opened.rules, Rows.Row, Rows.says, Example.bank, Example.model_one, Example.model_two, Example.policy, Example.request}
use Rattle.rules.proofs.{Example.uneven, Example.with, AllowanceRows.allowing, AllowanceRows.tag_five}
use Rattle.export_checks.specs.Checks.{lent, call_faults, handed}
use Rattle.export_catalogue.specs.Catalogue.{validate_faults, trust_faults, trust_call}
use Rattle.export_forms.specs.Forms.{write_stored_faults}
use Rattle.export_form_parts.specs.Parts.{read_stored_call}

-- policies that round once, by a byte that says neither, and with one byte too many
abbrev once : List ℕ
once = policy ++ (1 ∷ [])

abbrev neither : List ℕ
neither = policy ++ (2 ∷ [])

abbrev too_long : List ℕ
too_long = policy ++ (2 ∷ 0 ∷ [])

-- with an allowance of 200, of 0, beside such a byte, and with one byte too many
abbrev allowed : List ℕ
allowed = allowing 200 policy

abbrev none_allowed : List ℕ
none_allowed = allowing 0 policy

abbrev neither_allowed : List ℕ
neither_allowed = with 30 (2 ∷ []) allowed

abbrev longest : List ℕ
longest = neither_allowed ++ (0 ∷ [])

-- what refuses a call that decides over a bank that isn't whole, with no room
abbrev called : List ℕ → List ℕ → Option Fault
called p q = first_fault (call_faults (lent p q uneven) 8 0)

call_rows : List Row
unfolding rules call_faults size_faults
call_rows =
    says "a 31st byte of 2: 23, before 1" (called neither request) (some (fault 23)) refl
    ∷ says "32 bytes: 22, before 23 and 1" (called too_long request) (some (fault 22)) refl
    ∷ says "a request of 69 bytes: 22, before the policy's 23" (called neither (take 69 request)) (some (fault 22)) refl
    ∷ says "once: 1, before 4" (called once request) (some (fault 1)) refl
    ∷ says "35 bytes, with an allowance and with none: 1" (map (λ p. called p request) (allowed ∷ none_allowed ∷ []))
    (some (fault 1) ∷ some (fault 1) ∷ [])
    refl
    ∷ says "35 bytes with a 31st byte of 2: 23, before 1" (called neither_allowed request) (some (fault 23)) refl
    ∷ says "36 bytes: 22, before 23 and 1" (called longest request) (some (fault 22)) refl
    ∷ says "34 bytes: 22" (called (take 34 allowed) request) (some (fault 22)) refl
    ∷ []

-- what refuses the other calls that are lent a policy, with that bank
abbrev others : List ℕ → List (Option Fault)
others p = map first_fault (validate_faults p uneven ∷ trust_faults p uneven ∷ write_stored_faults p uneven 0 ∷ [])

other_rows : List Row
unfolding rules
other_rows =
    says "a 31st byte of 2: 23, before 1" (others neither) (some (fault 23) ∷ some (fault 23) ∷ some (fault 23) ∷ []) refl
    ∷ says "32 bytes: 22" (others too_long) (some (fault 22) ∷ some (fault 22) ∷ some (fault 22) ∷ []) refl
    ∷ says "once: 1" (others once) (some (fault 1) ∷ some (fault 1) ∷ some (fault 1) ∷ []) refl
    ∷ says "35 bytes: 1" (others allowed) (some (fault 1) ∷ some (fault 1) ∷ some (fault 1) ∷ []) refl
    ∷ says "35 bytes with a 31st byte of 2: 23, before 1" (others neither_allowed) (some (fault 23) ∷ some (fault 23) ∷ some (fault 23) ∷ []) refl
    ∷ says "36 bytes: 22" (others longest) (some (fault 22) ∷ some (fault 22) ∷ some (fault 22) ∷ []) refl
    ∷ says "a 31st byte of 2: the bank stays in the order that it had" (trust_call neither (model_two ++ model_one)) (23, model_two ++ model_one) refl
    ∷ says "once, and with an allowance: put in order" (map (λ p. trust_call p (model_two ++ model_one)) (once ∷ allowed ∷ []))
    ((0, bank) ∷ (0, bank) ∷ [])
    refl
    ∷ []

-- reading a stored form of the bank under a policy, and what stands after it, into so much room beside that of the bank
abbrev read_into : ℕ → List ℕ → List ℕ → (ℕ × List ℕ) × List ℕ
read_into room p after = read_stored_call (stored_form (policy_of p) bank ++ after) (replicate 94 255) (replicate room 255)

handed_rows : List Row
unfolding rules handed
handed_rows =
    says "35 bytes handed back, then the length of the models in eight" (read_into 44 (with 30 (1 ∷ []) allowed) [])
    ((0, with 30 (1 ∷ []) allowed ++ (94 ∷ replicate 7 0) ++ (255 ∷ [])), bank)
    refl
    ∷ says "of a form without tags 4 and 5: five bytes of 0 after the 30" (read_into 43 policy [])
    ((0, none_allowed ++ (94 ∷ replicate 7 0)), bank)
    refl
    ∷ says "room for 42: 4" (read_into 42 allowed []) ((4, replicate 42 255), replicate 94 255) refl
    ∷ says "25, before 4" (read_into 42 policy (tag_five 0)) ((25, replicate 42 255), replicate 94 255) refl
    ∷ []
