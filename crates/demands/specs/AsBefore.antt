-- The live calls beside the plain ones.
use Rattle.std.specs.Prelude.{ℕ, ◌≡◌, List}
use Rattle.rules.specs.Numbers.{Decision}
use Rattle.rules.specs.Listing.{find_of}
use Rattle.rules.specs.Decide.{prescribe_of, prescribe_checked_of, prescribe_traced_of, prescribe_traced_checked_of, utility_for_model_of}
use Rattle.rules.specs.Explain.{explain_of, explain_list}
use Rattle.rules.specs.Batch.{batch_of, batch_row, batch_checked_of, batch_checked_row}
use Rattle.rules.specs.Win.{what_would_win_of}
use Rattle.rules.specs.Margin.{decision_margin_of}
use Rattle.rules.specs.Live.{live_prescribe_of, live_prescribe_checked_of, live_prescribe_traced_of, live_prescribe_traced_checked_of, live_find_of, live_utility_for_model_of}
use Rattle.rules.specs.Live.{live_explain_of, live_explain_list, live_batch_of, live_batch_row, live_batch_checked_of, live_batch_checked_row, live_what_would_win_of}
use Rattle.rules.specs.Live.{live_decision_margin_of}
use Rattle.rules.specs.declared.records.KernelInput.{KernelInput}
use Rattle.rules.specs.declared.records.PolicySnapshot.{PolicySnapshot}

-- Each live call answers of a bank what the plain one does, and leaves the same in a list or a row
pub record AsBefore (bank : List ℕ) : Type 0 where
  pub prescribe : (p : PolicySnapshot) (q : KernelInput) → live_prescribe_of p q bank ≡ prescribe_of p q bank
  pub prescribe_checked : (p : PolicySnapshot) (q : KernelInput) → live_prescribe_checked_of p q bank ≡ prescribe_checked_of p q bank
  pub prescribe_traced : (p : PolicySnapshot) (q : KernelInput) → live_prescribe_traced_of p q bank ≡ prescribe_traced_of p q bank
  pub prescribe_traced_checked : (p : PolicySnapshot) (q : KernelInput) → live_prescribe_traced_checked_of p q bank ≡ prescribe_traced_checked_of p q bank
  pub find : (id : ℕ) → live_find_of id bank ≡ find_of id bank
  pub utility_for_model : (p : PolicySnapshot) (q : KernelInput) (id : ℕ) → live_utility_for_model_of p q id bank ≡ utility_for_model_of p q id bank
  pub explain : (p : PolicySnapshot) (q : KernelInput) (list : List ℕ) → live_explain_of p q bank list ≡ explain_of p q bank list
  pub explained : (p : PolicySnapshot) (q : KernelInput) (list : List ℕ) → live_explain_list p q bank list ≡ explain_list p q bank list
  pub batch : (qs : List KernelInput) (room : ℕ) → live_batch_of bank qs room ≡ batch_of bank qs room
  pub row : (p : PolicySnapshot) (qs : List KernelInput) (row : List Decision) → live_batch_row p bank qs row ≡ batch_row p bank qs row
  pub batch_checked : (qs : List KernelInput) (room : ℕ) → live_batch_checked_of bank qs room ≡ batch_checked_of bank qs room
  pub row_checked : (p : PolicySnapshot) (qs : List KernelInput) (row : List Decision) → live_batch_checked_row p bank qs row ≡ batch_checked_row p bank qs row
  pub what_would_win : (p : PolicySnapshot) (q : KernelInput) (id : ℕ) → live_what_would_win_of p q bank id ≡ what_would_win_of p q bank id
  pub decision_margin : (p : PolicySnapshot) (q : KernelInput) → live_decision_margin_of p q bank ≡ decision_margin_of p q bank
