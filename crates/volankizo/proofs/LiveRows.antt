-- Rows on the exported functions for a bank whose models are swapped (document 02, i): which refusal comes first where two would do, and what an edit
-- leaves. Assumes nothing.
use Rattle.rules.proofs.Kit.{ℕ, ◌+◌, ◌*◌, ◌^◌, refl, List, [], ◌∷◌, ◌++◌, map, Option, some, take, replicate}
use Rattle.rules.specs.{Refused.Fault, Refused.fault, Refused.first_fault, Slots.free_slot}
use Rattle.rules.proofs.{Opened.rules, Rows.Row, Rows.says, Example.bank, Example.model_one, Example.model_two, Example.policy, Example.request}
use Rattle.rules.proofs.{Example.uneven, Example.with, Example.named, AllowanceRows.allowing}
use Rattle.endian_writing.specs.Put.{patched}
use Rattle.export_checks.specs.Checks.{lent, handed}
use Rattle.export_live_checks.specs.LiveChecks.{live_call_faults, live_checked_faults}
use Rattle.export_live_lookups.specs.LiveLookups.{live_find_call}
use Rattle.export_edits.specs.Edits.{Stock, stock, add_call, replace_call, remove_call, compact_call}

-- policies with a 31st byte that says no rounding, and with the epoch at its largest
abbrev neither : List ℕ
neither = policy ++ (2 ∷ [])

abbrev spent : List ℕ
spent = with 8 (replicate 8 255) policy

-- a slot with id 0 and its last byte set; a bank with its first slot free
abbrev unclear : List ℕ
unclear = with 46 (1 ∷ []) free_slot

abbrev gap : List ℕ
gap = free_slot ++ model_two

-- ---- refusals

-- what refuses a live call, plain or checked, with so much room for 8 bytes
abbrev called : List ℕ → List ℕ → List ℕ → ℕ → List (Option Fault)
called p q b room = map first_fault (live_call_faults (lent p q b) 8 room ∷ live_checked_faults (lent p q b) 8 room ∷ [])

-- a request with a risk of 65,535
abbrev risky : List ℕ
risky = with 36 (255 ∷ 255 ∷ []) request

call_rows : List Row
unfolding rules live_call_faults
call_rows =
    says "a request of 69 bytes: 22, before 23" (called neither (take 69 request) uneven 0) (some (fault 22) ∷ some (fault 22) ∷ []) refl
    ∷ says "a 31st byte of 2: 23, before 1" (called neither request uneven 0) (some (fault 23) ∷ some (fault 23) ∷ []) refl
    ∷ says "1, before 34" (called policy request (unclear ++ (0 ∷ [])) 0) (some (fault 1) ∷ some (fault 1) ∷ []) refl
    ∷ says "34, before 4" (called policy request (bank ++ unclear) 0) (some (fault 34) ∷ some (fault 34) ∷ []) refl
    ∷ says "4, before 3" (called policy risky gap 7) (some (fault 4) ∷ some (fault 4) ∷ []) refl
    ∷ []

-- the word of an edit, where it is refused and leaves everything as it was
abbrev refused_by : ℕ → Stock → List ℕ → (ℕ × List ℕ) × Stock
refused_by word k out = ((word, out), k)

-- two bytes to answer into
abbrev two : List ℕ
two = 9 ∷ 9 ∷ []

-- adding one record, replacing by it, removing its id, and compacting
abbrev edited : List ℕ → List ℕ → List ℕ → ℕ → List ℕ → List ((ℕ × List ℕ) × Stock)
edited p b r id out = add_call (stock p b) r out ∷ replace_call (stock p b) r out ∷ remove_call (stock p b) id out ∷ compact_call (stock p b) out ∷ []

edit_rows : List Row
unfolding rules handed patched
edit_rows =
    says "a record of 46 bytes: 22, before 23" (add_call (stock neither bank) (take 46 model_one) two) (refused_by 22 (stock neither bank) two) refl
    ∷ says "a 31st byte of 2: 23, before 1" (map (λ e. e.0.0) (edited neither uneven model_one 1 [])) (23 ∷ 23 ∷ 23 ∷ 23 ∷ []) refl
    ∷ says "34, before 4" (map (λ e. e.0.0) (edited policy unclear model_one 1 [])) (34 ∷ 34 ∷ 34 ∷ 34 ∷ []) refl
    ∷ says "4, before 16 and 27" (map (λ e. e.0.0) (edited spent bank free_slot 0 (9 ∷ []))) (4 ∷ 4 ∷ 4 ∷ 4 ∷ []) refl
    ∷ says "16, before 27" (map (λ e. e.0.0) (edited spent bank free_slot 0 two)) (16 ∷ 16 ∷ 16 ∷ 27 ∷ []) refl
    ∷ says "27, before 12 and 5" (map (λ e. e.0.0) (edited spent model_one model_one 2 two)) (27 ∷ 27 ∷ 27 ∷ 27 ∷ []) refl
    ∷ says "12 with the id, before 28" (add_call (stock policy bank) model_two two) (refused_by (12 + 2 ^ 32 * 2) (stock policy bank) two) refl
    ∷ says "28" (add_call (stock policy bank) (named 3 model_one) two) (refused_by 28 (stock policy bank) two) refl
    ∷ says "5" (replace_call (stock policy gap) model_one two) (refused_by 5 (stock policy gap) two) refl
    ∷ []

-- ---- what is left

-- a policy that rounds once, and the same after one edit: the epoch was 3
abbrev once : List ℕ
once = policy ++ (1 ∷ [])

abbrev once_raised : List ℕ
once_raised = with 8 (4 ∷ []) once

-- and one with an allowance besides
abbrev allowed : List ℕ
allowed = with 30 (1 ∷ []) (allowing 200 policy)

-- model 2 switched off
abbrev other_two : List ℕ
other_two = with 10 (0 ∷ []) model_two

left_rows : List Row
unfolding rules handed patched
left_rows =
    says "added to the lowest free slot" (add_call (stock once gap) model_one two) ((0, 0 ∷ 0 ∷ []), stock once_raised bank) refl
    ∷ says "replaced in its slot" (replace_call (stock once gap) other_two two) ((0, 1 ∷ 0 ∷ []), stock once_raised (free_slot ++ other_two)) refl
    ∷ says "removed from its slot" (remove_call (stock once bank) 1 two) ((0, 0 ∷ 0 ∷ []), stock once_raised gap) refl
    ∷ says "the gap closed, one live" (compact_call (stock once gap) two) ((0, 1 ∷ 0 ∷ []), stock once_raised (model_two ++ free_slot)) refl
    ∷ says "nothing to close, raised all the same" (compact_call (stock once bank) (two ++ two)) ((0, 2 ∷ 0 ∷ two), stock once_raised bank) refl
    ∷ says "how a policy rounds and its allowance stay" (map (λ e. e.1.policy) (edited allowed gap other_two 2 two))
    (allowed ∷ with 8 (4 ∷ []) allowed ∷ with 8 (4 ∷ []) allowed ∷ with 8 (4 ∷ []) allowed ∷ [])
    refl
    ∷ says "found in slot 1" (live_find_call gap 2 two) (0, 1 ∷ 0 ∷ []) refl
    ∷ says "id 0 is nowhere" (live_find_call gap 0 two) (0, 255 ∷ 255 ∷ []) refl
    ∷ []
