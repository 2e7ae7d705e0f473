-- WHERE NO SLOT IS FREE each live call answers what the plain one does, as the live records are then all that are listed. Assumes nothing.
use Rattle.rules.proofs.Kit.{ℕ, ◌≡◌, sym, ap, subst, List, append-nil}
use Rattle.rules.specs.{Order.Each, Records.Listed, Records.listed_of, Refused.bank_faults, Listing.every_record, Listing.find_over, Listing.find_of}
use Rattle.rules.specs.{Decide.prescribe_over, Decide.prescribe_of, Decide.prescribe_checked_over, Decide.prescribe_checked_of, Decide.prescribe_traced_over}
use Rattle.rules.specs.{Decide.prescribe_traced_of, Decide.prescribe_traced_checked_over, Decide.prescribe_traced_checked_of, Decide.utility_for_model_over}
use Rattle.rules.specs.{Decide.utility_for_model_of, Explain.explain_over, Explain.explain_of, Explain.explain_list_over, Explain.explain_list, Batch.batch_over}
use Rattle.rules.specs.{Batch.batch_of, Batch.batch_row_over, Batch.batch_row, Batch.batch_checked_over, Batch.batch_checked_of, Batch.batch_checked_row_over}
use Rattle.rules.specs.{Batch.batch_checked_row, Win.what_would_win_over, Win.what_would_win_of, Margin.decision_margin_over, Margin.decision_margin_of, Trust.records_of}
use Rattle.rules.specs.{Slots.live_faults, Slots.live_records, Live.live_prescribe_of, Live.live_prescribe_checked_of, Live.live_prescribe_traced_of}
use Rattle.rules.specs.{Live.live_prescribe_traced_checked_of, Live.live_find_of, Live.live_utility_for_model_of, Live.live_explain_of, Live.live_explain_list}
use Rattle.rules.specs.{Live.live_batch_of, Live.live_batch_row, Live.live_batch_checked_of, Live.live_batch_checked_row, Live.live_what_would_win_of}
use Rattle.rules.specs.{Live.live_decision_margin_of}
use Rattle.rules.proofs.{Sorted.each-so, Slots.listed_slots, Slots.live_all}
use Rattle.demands.specs.{Edited.Live, AsBefore.AsBefore}
use Rattle.demands.proofs.{Closing.LiveOrFree, Closing.each_clear, SlotsApart.each_placed}

module _ (bank : List ℕ) (full : Each Live (records_of bank)) where
  same-faults : live_faults bank ≡ bank_faults bank
  unfolding live_faults
  same-faults =
      rw (each_clear (records_of bank) (each-so Live LiveOrFree (λ r n e. absurd (n e)) (records_of bank) full)) (append-nil (bank_faults bank))

  all_named : Each (λ (l : Listed). l.model.model_id ≡ 0 → ⊥) (listed_of bank)
  all_named = rw (listed_slots bank) (subst (λ X. X) (sym (each_placed (λ id. id ≡ 0 → ⊥) 0 (records_of bank))) full)

  -- S3. WHERE NO SLOT IS FREE the live records are all that are listed, and 34 is not given
  pub all_live : live_records bank ≡ every_record bank
  all_live = λ i. record { faults = same-faults i; list = live_all (λ (l : Listed). l.model.model_id) (listed_of bank) all_named i }

  answering : Unit {0}
  unfolding live_prescribe_of live_prescribe_checked_of live_prescribe_traced_of live_prescribe_traced_checked_of live_find_of live_utility_for_model_of live_explain_of
      live_explain_list live_batch_of live_batch_row live_batch_checked_of live_batch_checked_row live_what_would_win_of live_decision_margin_of
  answering = tt

  answered : Unit {0}
  unfolding prescribe_of prescribe_checked_of prescribe_traced_of prescribe_traced_checked_of find_of utility_for_model_of explain_of explain_list batch_of batch_row
      batch_checked_of batch_checked_row what_would_win_of decision_margin_of
  answered = tt

  -- S9. SO EACH LIVE CALL ANSWERS AS BEFORE
  pub full-answers-as-before : AsBefore bank
  unfolding answering answered
  full-answers-as-before =
      record {
        prescribe = λ p q. ap (prescribe_over p q) all_live;
        prescribe_checked = λ p q. ap (prescribe_checked_over p q) all_live;
        prescribe_traced = λ p q. ap (prescribe_traced_over p q) all_live;
        prescribe_traced_checked = λ p q. ap (prescribe_traced_checked_over p q) all_live;
        find = λ id. ap (find_over id) all_live;
        utility_for_model = λ p q id. ap (utility_for_model_over p q id) all_live;
        explain = λ p q list. ap (λ b. explain_over p q b list) all_live;
        explained = λ p q list. ap (λ b. explain_list_over p q b list) all_live;
        batch = λ qs room. ap (λ b. batch_over b qs room) all_live;
        row = λ p qs row. ap (λ b. batch_row_over p b qs row) all_live;
        batch_checked = λ qs room. ap (λ b. batch_checked_over b qs room) all_live;
        row_checked = λ p qs row. ap (λ b. batch_checked_row_over p b qs row) all_live;
        what_would_win = λ p q id. ap (λ b. what_would_win_over p q b id) all_live;
        decision_margin = λ p q. ap (decision_margin_over p q) all_live;
      }
