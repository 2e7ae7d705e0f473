-- Document 01, "Bytes" and "Deciding": explanation records, and the list of them.
use Rattle.std.specs.Prelude.{ℕ, zero, suc, ◌-◌, ◌*◌, ◌/◌, List, [], ◌∷◌, ◌++◌, length, drop}
use Rattle.std.proofs.Math.Option.{Option, none, some}
use Rattle.std.specs.Int.{w64}
use Rattle.std.proofs.Common.{of_z}
use Rattle.rules.specs.Limits.{explanation_bytes}
use Rattle.rules.specs.Choice.{below, equal}
use Rattle.rules.specs.Bytes.{number_at, packed}
use Rattle.rules.specs.Records.{Listed}
use Rattle.rules.specs.Refused.{Faults, room_faults, list_unless, Answer, answered, unless, refused}
use Rattle.rules.specs.Numbers.{Decision}
use Rattle.rules.specs.Listing.{Reading, every_record}
use Rattle.rules.specs.Verdict.{Judged, judged}
use Rattle.rules.specs.Decide.{stopped_by, decision_of}
use Rattle.rules.specs.declared.records.KernelInput.{KernelInput}
use Rattle.rules.specs.declared.records.PolicySnapshot.{PolicySnapshot}

-- B6, B8. The 72 bytes of one record: each field beside its width. No term is below 0, so its 16 bytes in two's complement are those of the number
unfoldable pub explanation_record : Judged → List ℕ
explanation_record j =
    packed ((4, j.listed.model.model_id)
    ∷ (2, j.listed.place)
    ∷ (1, j.verdict.kind)
    ∷ (1, j.verdict.gate)
    ∷ (16, j.verdict.first)
    ∷ (16, j.verdict.second)
    ∷ (8, j.verdict.cost)
    ∷ (16, j.verdict.latency)
    ∷ (8, of_z w64 j.verdict.utility)
    ∷ [])

-- D27. Every record in the order of the list, one after the other
unfoldable pub explained : List Judged → List ℕ
explained [] = []
explained (j ∷ js) = explanation_record j ++ explained js

-- D27. None where the request is stopped
unfoldable pub explanation_of : PolicySnapshot → KernelInput → List Listed → List ℕ
explanation_of p q ls = below 0 (stopped_by p q) [] (explained (judged p q ls))

-- N4. `explain` over a bank, however it is read: 4 only where this answer needs more room
abbrev pub explain_faults_over : PolicySnapshot → KernelInput → Reading → List ℕ → Faults
explain_faults_over p q b list = b.faults ++ room_faults (length (explanation_of p q b.list)) (length list)

abbrev pub explain_over : PolicySnapshot → KernelInput → Reading → List ℕ → Answer Decision
explain_over p q b list = unless (explain_faults_over p q b list) refused (answered (decision_of p q b.list))

-- B9, N24. The list at exit
abbrev pub explain_list_over : PolicySnapshot → KernelInput → Reading → List ℕ → List ℕ
explain_list_over p q b list = list_unless (explain_faults_over p q b list) (explanation_of p q b.list) list

-- and with every record of it
unfoldable pub explain_of : PolicySnapshot → KernelInput → List ℕ → List ℕ → Answer Decision
explain_of p q bank list = explain_over p q (every_record bank) list

unfoldable pub explain_list : PolicySnapshot → KernelInput → List ℕ → List ℕ → List ℕ
explain_list p q bank list = explain_list_over p q (every_record bank) list

-- X6. Of a list of whole explanation records: how many so many bytes hold, and the verdict byte of the one at a place
abbrev pub entries_in : ℕ → ℕ
entries_in n = n / explanation_bytes

unfoldable pub verdict_at : List ℕ → ℕ → ℕ
verdict_at list place = number_at (drop (explanation_bytes * place) list) 6 1

-- X6. The place of the first eligible one (verdict 4) among so many from a place on; then among all from a place on
unfoldable pub eligible_from : List ℕ → ℕ → ℕ → Option ℕ
eligible_from list place zero = none
eligible_from list place (suc n) = equal (verdict_at list place) 4 (some place) (eligible_from list (suc place) n)

unfoldable pub next_eligible_of : List ℕ → ℕ → Option ℕ
next_eligible_of list place = eligible_from list place (entries_in (length list) - place)
