-- Document 01, "Deciding": a batch, which fills a row of decisions from a row of requests.
use Rattle.std.proofs.Math.Option.{Option}
use Rattle.std.specs.Prelude.{ℕ, suc, List, [], ◌∷◌, ◌++◌, map, length}
use Rattle.rules.specs.Records.{Listed}
use Rattle.rules.specs.Refused.{Fault, Faults, first_fault, room_faults, list_unless}
use Rattle.rules.specs.Numbers.{Decision}
use Rattle.rules.specs.Listing.{Reading, every_record}
use Rattle.rules.specs.Decide.{request_faults, decision_of}
use Rattle.rules.specs.declared.records.KernelInput.{KernelInput}
use Rattle.rules.specs.declared.records.PolicySnapshot.{PolicySnapshot}

-- N23. What stands against a batch, however the bank is read: what refuses the bank, then 4 where the row is shorter than the requests
abbrev pub batch_faults_over : Reading → List KernelInput → ℕ → Faults
batch_faults_over b qs room = b.faults ++ room_faults (length qs) room

-- N3. Request by request, each with its place; the checked batch tests all of them before it decides any
unfoldable pub requests_faults : ℕ → List KernelInput → Faults
requests_faults place [] = []
requests_faults place (q ∷ qs) = request_faults q place ++ requests_faults (suc place) qs

abbrev pub batch_checked_faults_over : Reading → List KernelInput → ℕ → Faults
batch_checked_faults_over b qs room = batch_faults_over b qs room ++ requests_faults 0 qs

-- D28. Each request's own decision, in the order of the requests
unfoldable pub decisions_of : PolicySnapshot → List Listed → List KernelInput → List Decision
decisions_of p ls qs = map (λ q. decision_of p q ls) qs

-- D28. `prescribe_batch` and `prescribe_batch_checked`: the answer, by the room of the row, and the row at exit
abbrev pub batch_over : Reading → List KernelInput → ℕ → Option Fault
batch_over b qs room = first_fault (batch_faults_over b qs room)

abbrev pub batch_row_over : PolicySnapshot → Reading → List KernelInput → List Decision → List Decision
batch_row_over p b qs row = list_unless (batch_faults_over b qs (length row)) (decisions_of p b.list qs) row

abbrev pub batch_checked_over : Reading → List KernelInput → ℕ → Option Fault
batch_checked_over b qs room = first_fault (batch_checked_faults_over b qs room)

abbrev pub batch_checked_row_over : PolicySnapshot → Reading → List KernelInput → List Decision → List Decision
batch_checked_row_over p b qs row = list_unless (batch_checked_faults_over b qs (length row)) (decisions_of p b.list qs) row

-- and with every record of it
unfoldable pub batch_of : List ℕ → List KernelInput → ℕ → Option Fault
batch_of bank qs room = batch_over (every_record bank) qs room

unfoldable pub batch_row : PolicySnapshot → List ℕ → List KernelInput → List Decision → List Decision
batch_row p bank qs row = batch_row_over p (every_record bank) qs row

unfoldable pub batch_checked_of : List ℕ → List KernelInput → ℕ → Option Fault
batch_checked_of bank qs room = batch_checked_over (every_record bank) qs room

unfoldable pub batch_checked_row : PolicySnapshot → List ℕ → List KernelInput → List Decision → List Decision
batch_checked_row p bank qs row = batch_checked_row_over p (every_record bank) qs row
