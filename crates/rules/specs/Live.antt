-- Document 02, i: the calls that run over live records alone, as if the catalogue listed nothing else. Each is the call of document 01 over the
-- bank read so (S9): 34 comes after 2, a place is a slot, and id 0 is nowhere.
use Rattle.std.specs.Prelude.{ℕ, List, ℤ}
use Rattle.std.proofs.Math.Option.{Option}
use Rattle.rules.specs.Refused.{Fault, Answer}
use Rattle.rules.specs.Numbers.{Decision, DecisionAndTrace, Boundary}
use Rattle.rules.specs.Listing.{find_over}
use Rattle.rules.specs.Decide.{prescribe_over, prescribe_checked_over, prescribe_traced_over, prescribe_traced_checked_over, utility_for_model_over}
use Rattle.rules.specs.Explain.{explain_over, explain_list_over}
use Rattle.rules.specs.Batch.{batch_over, batch_row_over, batch_checked_over, batch_checked_row_over}
use Rattle.rules.specs.Win.{what_would_win_over}
use Rattle.rules.specs.Margin.{decision_margin_over}
use Rattle.rules.specs.Slots.{live_records}
use Rattle.rules.specs.declared.records.KernelInput.{KernelInput}
use Rattle.rules.specs.declared.records.PolicySnapshot.{PolicySnapshot}

-- S9. Decisions, plain and checked, alone and with their counts
unfoldable pub live_prescribe_of : PolicySnapshot → KernelInput → List ℕ → Answer Decision
live_prescribe_of p q bank = prescribe_over p q (live_records bank)

unfoldable pub live_prescribe_checked_of : PolicySnapshot → KernelInput → List ℕ → Answer Decision
live_prescribe_checked_of p q bank = prescribe_checked_over p q (live_records bank)

unfoldable pub live_prescribe_traced_of : PolicySnapshot → KernelInput → List ℕ → Answer DecisionAndTrace
live_prescribe_traced_of p q bank = prescribe_traced_over p q (live_records bank)

unfoldable pub live_prescribe_traced_checked_of : PolicySnapshot → KernelInput → List ℕ → Answer DecisionAndTrace
live_prescribe_traced_checked_of p q bank = prescribe_traced_checked_over p q (live_records bank)

-- S9. One model: its slot, its utility
unfoldable pub live_find_of : ℕ → List ℕ → Answer (Option ℕ)
live_find_of id bank = find_over id (live_records bank)

unfoldable pub live_utility_for_model_of : PolicySnapshot → KernelInput → ℕ → List ℕ → Answer ℤ
live_utility_for_model_of p q id bank = utility_for_model_over p q id (live_records bank)

-- S9. An explanation: an entry for each live record, no gap, and room for these
unfoldable pub live_explain_of : PolicySnapshot → KernelInput → List ℕ → List ℕ → Answer Decision
live_explain_of p q bank list = explain_over p q (live_records bank) list

unfoldable pub live_explain_list : PolicySnapshot → KernelInput → List ℕ → List ℕ → List ℕ
live_explain_list p q bank list = explain_list_over p q (live_records bank) list

-- S9. A batch
unfoldable pub live_batch_of : List ℕ → List KernelInput → ℕ → Option Fault
live_batch_of bank qs room = batch_over (live_records bank) qs room

unfoldable pub live_batch_row : PolicySnapshot → List ℕ → List KernelInput → List Decision → List Decision
live_batch_row p bank qs row = batch_row_over p (live_records bank) qs row

unfoldable pub live_batch_checked_of : List ℕ → List KernelInput → ℕ → Option Fault
live_batch_checked_of bank qs room = batch_checked_over (live_records bank) qs room

unfoldable pub live_batch_checked_row : PolicySnapshot → List ℕ → List KernelInput → List Decision → List Decision
live_batch_checked_row p bank qs row = batch_checked_row_over p (live_records bank) qs row

-- S9. Boundaries
unfoldable pub live_what_would_win_of : PolicySnapshot → KernelInput → List ℕ → ℕ → Boundary
live_what_would_win_of p q bank id = what_would_win_over p q (live_records bank) id

unfoldable pub live_decision_margin_of : PolicySnapshot → KernelInput → List ℕ → Boundary
live_decision_margin_of p q bank = decision_margin_over p q (live_records bank)
