-- ANY TWO PERMITTED ANSWERS ARE EQUAL, for each exported function. What it leaves is its word; its word and the buffer that it may write; or these and
-- a second buffer; or these and the policy and the bank that it edits. Assumes nothing.
use Rattle.rules.proofs.Kit.{ℕ, List}
use Rattle.rules.specs.{Refused.first_fault, Printed.unit_text, Printed.ask_text, Words.ask_words}
use Rattle.rules.proofs.Told.{Same, one_itself}
use Rattle.version.specs.Version.{this_version}
use Rattle.export_checks.specs.Checks.{Lent, word_of, check_faults}
use Rattle.export_form_parts.specs.Parts.{read_stored_call, read_request_call}
use Rattle.export_forms.specs.Forms.{record_at_call, write_stored_call, write_request_call}
use Rattle.export_calls.specs.Calls.{prescribe_call, prescribe_checked_call, explain_call}
use Rattle.export_batch.specs.Batches.{LentRow, batch_call, batch_checked_call}
use Rattle.export_lookups.specs.Lookups.{utility_call, find_call, next_call}
use Rattle.export_catalogue.specs.Catalogue.{validate_faults, trust_call}
use Rattle.export_bounds.specs.Bounds.{win_call, margin_call}
use Rattle.export_live_calls.specs.LiveCalls.{live_prescribe_call, live_prescribe_checked_call, live_explain_call}
use Rattle.export_live_lookups.specs.LiveLookups.{live_find_call, live_utility_call}
use Rattle.export_live_bounds.specs.LiveBounds.{live_win_call, live_margin_call}
use Rattle.export_edits.specs.Edits.{Stock, add_call, replace_call, remove_call, compact_call}
use Rattle.export_texts.specs.Texts.{text_call}

pub one_version : Same (λ r. r) this_version
one_version = one_itself _

module _ (l : LentRow) (out : List ℕ) where
  pub one-prescribe-batch : Same (λ r. r) (batch_call l out)
  one-prescribe-batch = one_itself _

  pub one-prescribe-batch-checked : Same (λ r. r) (batch_checked_call l out)
  one-prescribe-batch-checked = one_itself _

module _ (l : Lent) (policy request bank form list input out : List ℕ) (id place from : ℕ) where
  pub one-prescribe : Same (λ r. r) (prescribe_call l out)
  one-prescribe = one_itself _

  pub one-prescribe-checked : Same (λ r. r) (prescribe_checked_call l out)
  one-prescribe-checked = one_itself _

  pub one-utility-for-model : Same (λ r. r) (utility_call l id out)
  one-utility-for-model = one_itself _

  pub one_find : Same (λ r. r) (find_call bank id out)
  one_find = one_itself _

  pub one-check-request : Same (λ r. r) (word_of (first_fault (check_faults request)))
  one-check-request = one_itself _

  pub one-explain : Same (λ r. r) (explain_call l list out)
  one-explain = one_itself _

  pub one_next_eligible : Same (λ r. r) (next_call list from out)
  one_next_eligible = one_itself _

  pub one_validate : Same (λ r. r) (word_of (first_fault (validate_faults policy bank)))
  one_validate = one_itself _

  pub one-trust : Same (λ r. r) (trust_call policy bank)
  one-trust = one_itself _

  pub one_what_would_win : Same (λ r. r) (win_call l id out)
  one_what_would_win = one_itself _

  pub one_decision_margin : Same (λ r. r) (margin_call l out)
  one_decision_margin = one_itself _

  pub one-record-at : Same (λ r. r) (record_at_call bank place out)
  one-record-at = one_itself _

  pub one_write_stored : Same (λ r. r) (write_stored_call policy bank out)
  one_write_stored = one_itself _

  pub one_read_stored : Same (λ r. r) (read_stored_call form bank out)
  one_read_stored = one_itself _

  pub one_write_request : Same (λ r. r) (write_request_call request out)
  one_write_request = one_itself _

  pub one_read_request : Same (λ r. r) (read_request_call form out)
  one_read_request = one_itself _

  pub one_unit_text : Same (λ r. r) (text_call (unit_text input) out)
  one_unit_text = one_itself _

  pub one_ask_text : Same (λ r. r) (text_call (ask_text id input) out)
  one_ask_text = one_itself _

  pub one_ask_words : Same (λ r. r) (text_call (ask_words id input) out)
  one_ask_words = one_itself _

-- ---- over live records, and the edits of a bank

module _ (l : Lent) (bank list out : List ℕ) (id : ℕ) where
  pub one-live-prescribe : Same (λ r. r) (live_prescribe_call l out)
  one-live-prescribe = one_itself _

  pub one-live-prescribe-checked : Same (λ r. r) (live_prescribe_checked_call l out)
  one-live-prescribe-checked = one_itself _

  pub one-live-explain : Same (λ r. r) (live_explain_call l list out)
  one-live-explain = one_itself _

  pub one-live-find : Same (λ r. r) (live_find_call bank id out)
  one-live-find = one_itself _

  pub one-live-utility-for-model : Same (λ r. r) (live_utility_call l id out)
  one-live-utility-for-model = one_itself _

  pub one-live-what-would-win : Same (λ r. r) (live_win_call l id out)
  one-live-what-would-win = one_itself _

  pub one-live-decision-margin : Same (λ r. r) (live_margin_call l out)
  one-live-decision-margin = one_itself _

module _ (k : Stock) (r out : List ℕ) (id : ℕ) where
  pub one-live-add : Same (λ r. r) (add_call k r out)
  one-live-add = one_itself _

  pub one-live-replace : Same (λ r. r) (replace_call k r out)
  one-live-replace = one_itself _

  pub one-live-remove : Same (λ r. r) (remove_call k id out)
  one-live-remove = one_itself _

  pub one-live-compact : Same (λ r. r) (compact_call k out)
  one-live-compact = one_itself _
