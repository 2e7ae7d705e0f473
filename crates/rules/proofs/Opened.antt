-- Every rule opened, for the rows to compute: `unfolding rules` opens all that the lines below name. Assumes nothing.
use Rattle.rules.specs.{Choice.below, Choice.at_least, Choice.equal, Choice.lower, Choice.higher, Bytes.number, Bytes.bytes_of, Bytes.packed}
use Rattle.rules.specs.{Bytes.filled}
use Rattle.rules.specs.{Records.model_of, Records.input_of, Records.policy_with, Records.policy_of, Records.listed_of, Stored.field_bytes, Stored.fits}
use Rattle.rules.specs.{Stored.body_of, Stored.body_faults, Stored.policy_size_faults}
use Rattle.rules.specs.{Stored.rounding_faults, Stored.read_policy_of, Stored.rounding_field, Stored.allowance_field, Stored.after_of}
use Rattle.rules.specs.{Stored.field_faults, Stored.form_faults}
use Rattle.rules.specs.{Stored.stored_form, Stored.request_form, Stored.write_faults}
use Rattle.rules.specs.{Stored.write_stored_of, Stored.write_stored_buffer, Stored.read_faults, Stored.read_stored_of, Stored.read_stored_buffer}
use Rattle.rules.specs.{Stored.write_request_of, Stored.write_request_buffer, Stored.read_request_of, Refused.first_fault, Refused.length_faults}
use Rattle.rules.specs.{Refused.size_faults, Refused.room_faults, Listing.reading_faults, Listing.reading_of, Listing.record_of, Listing.record_start}
use Rattle.rules.specs.{Listing.first_listed}
use Rattle.rules.specs.{Listing.find_of, Decide.request_faults, Decide.request_check, Validate.policy_faults, Validate.empty_faults, Validate.repeat_faults}
use Rattle.rules.specs.{Validate.provider_faults, Validate.model_faults, Validate.record_faults, Validate.records_faults, Validate.off_faults}
use Rattle.rules.specs.{Validate.catalog_faults, Validate.validate_of, Trust.reserved_faults, Trust.flag_faults, Trust.early_faults, Trust.records_from}
use Rattle.rules.specs.{Trust.joined, Trust.id_of, Trust.ordered_of, Trust.trust_of, Trust.trust_bank, Gates.gate_of, Gates.detail_of, Price.billed}
use Rattle.rules.specs.{Price.billed_both}
use Rattle.rules.specs.{Price.cost_of, Price.scaled_price, Utility.share_of, Utility.quality_term_of, Utility.risk_term_of, Utility.charged_ms}
use Rattle.rules.specs.{Utility.latency_term_of}
use Rattle.rules.specs.{Utility.exact_utility_of, Utility.utility_of, Verdict.by_utility, Verdict.verdict_costing, Rank.better, Rank.ranking}
use Rattle.rules.specs.{Count.gate_reason}
use Rattle.rules.specs.{Count.counted_for, Count.raised_by, Count.counts_from, Count.counts_of, Count.heavier, Count.dominant_of, Decide.stopped_by}
use Rattle.rules.specs.{Decide.rejection, Decide.executed_as, Decide.chosen, Decide.by_verdicts, Decide.decision_by, Decide.counts_in, Decide.trace_of}
use Rattle.rules.specs.{Decide.prescribe_of, Decide.prescribe_checked_of, Decide.prescribe_traced_of, Decide.prescribe_traced_checked_of, Decide.utility_in}
use Rattle.rules.specs.{Decide.utility_for_model_of, Explain.explanation_record, Explain.explained, Explain.explanation_of}
use Rattle.rules.specs.{Explain.explain_of, Explain.explain_list, Explain.verdict_at, Explain.eligible_from, Explain.next_eligible_of}
use Rattle.rules.specs.{Batch.requests_faults, Batch.decisions_of, Batch.batch_of, Batch.batch_row, Batch.batch_checked_of}
use Rattle.rules.specs.{Batch.batch_checked_row, Halving.halve_in, Halving.search_of, Halving.search_after_far_end, Levers.lever_at, Levers.selects}
use Rattle.rules.specs.{Levers.varied, Levers.decision_at, Levers.wins, Levers.boundary_of, View.with_model, View.view_of, Win.win_levers, Win.win_search}
use Rattle.rules.specs.{Win.win_for, Win.win_by, Win.what_would_win_of, Margin.margin_levers, Margin.margin_for, Margin.margin_by, Margin.decision_margin_of}
use Rattle.rules.specs.{Slots.is_blank, Slots.slot_faults, Slots.live_faults, Slots.live_by, Slots.slot_with, Slots.lowest_free, Edits.offered_faults}
use Rattle.rules.specs.{Edits.spent_faults, Edits.compact_faults, Edits.edit_faults, Edits.add_faults, Edits.slot_to_add, Edits.slot_to_replace}
use Rattle.rules.specs.{Edits.slot_to_remove, Edits.raised_of, Edits.add_of, Edits.add_bank, Edits.replace_of, Edits.replace_bank, Edits.remove_of}
use Rattle.rules.specs.{Edits.remove_bank, Edits.closed_up, Edits.compacted, Edits.compact_of, Edits.compact_bank, Live.live_prescribe_of}
use Rattle.rules.specs.{Live.live_prescribe_checked_of, Live.live_prescribe_traced_of, Live.live_prescribe_traced_checked_of, Live.live_find_of}
use Rattle.rules.specs.{Live.live_utility_for_model_of, Live.live_explain_of, Live.live_explain_list, Live.live_batch_of, Live.live_batch_row}
use Rattle.rules.specs.{Live.live_batch_checked_of, Live.live_batch_checked_row, Live.live_what_would_win_of, Live.live_decision_margin_of}
use Rattle.rules.specs.{Text.text, Text.digits_of, Text.decimal, Text.signed_decimal, Text.spaced, Text.line, Printed.decision_line, Printed.counts_line}
use Rattle.rules.specs.{Printed.cost_text, Printed.lever_line, Printed.lever_lines, Printed.passes_line, Printed.refused_line, Printed.program_faults}
use Rattle.rules.specs.{Printed.unit_report, Printed.unit_text, Printed.ask_faults, Printed.ask_report, Printed.ask_text, Printed.print_of}
use Rattle.rules.specs.{Printed.print_buffer}
use Rattle.rules.specs.{Phrases.sentence, Phrases.about, Phrases.comparing, Phrases.digit, Phrases.percent, Phrases.tenths_up, Phrases.percent_up}
use Rattle.rules.specs.{NotChosen.of_model, NotChosen.later_gate_words, NotChosen.gate_words, NotChosen.budget_words, NotChosen.worth_words, NotChosen.key_words}
use Rattle.rules.specs.{NotChosen.outranked_words, NotChosen.reason_words, NotChosen.standing_words, FaultWords.too_many, FaultWords.field_words, FaultWords.range_words, FaultWords.fault_words}
use Rattle.rules.specs.{FaultWords.refused_words, Words.chosen_words, Words.risk_words, Words.confidence_words, Words.rejection_words, Words.choice_words}
use Rattle.rules.specs.{Words.cost_words, Words.fall_words, Words.price_words, Words.unsearched_words, Words.rise_words, Words.latency_words}
use Rattle.rules.specs.{Words.lever_words, Words.levers_words, Words.off_words, Words.on_words, Words.searched_words, Words.stopped_words}
use Rattle.rules.specs.{Words.already_words, Words.model_words, Words.words_report, Words.ask_words}

-- ---- bytes: numbers, records, banks

bytes : Unit {0}
unfolding below at_least equal lower higher number bytes_of packed filled model_of input_of policy_with policy_of listed_of
bytes = tt

forms : Unit {0}
unfolding field_bytes fits body_of after_of body_faults field_faults form_faults policy_size_faults rounding_faults read_policy_of rounding_field allowance_field stored_form
    request_form
forms = tt

writing : Unit {0}
unfolding forms write_faults write_stored_of write_stored_buffer read_faults read_stored_of read_stored_buffer write_request_of write_request_buffer read_request_of
writing = tt

-- ---- numbers handed back: of a bank, a request, a catalogue

refusing : Unit {0}
unfolding first_fault length_faults size_faults room_faults reading_faults reading_of record_of record_start first_listed find_of request_faults request_check
refusing = tt

validating : Unit {0}
unfolding policy_faults empty_faults repeat_faults provider_faults model_faults record_faults records_faults off_faults catalog_faults validate_of
validating = tt

trusting : Unit {0}
unfolding reserved_faults flag_faults early_faults records_from joined id_of ordered_of trust_of trust_bank
trusting = tt

-- ---- deciding: one record, the list of them, the calls

judging : Unit {0}
unfolding gate_of detail_of billed billed_both cost_of scaled_price share_of quality_term_of risk_term_of charged_ms latency_term_of exact_utility_of utility_of
    by_utility verdict_costing
judging = tt

ordering : Unit {0}
unfolding better ranking gate_reason counted_for raised_by counts_from counts_of heavier dominant_of
ordering = tt

deciding : Unit {0}
unfolding stopped_by rejection executed_as chosen by_verdicts decision_by counts_in trace_of
deciding = tt

prescribing : Unit {0}
unfolding prescribe_of prescribe_checked_of prescribe_traced_of prescribe_traced_checked_of utility_in utility_for_model_of
prescribing = tt

explaining : Unit {0}
unfolding explanation_record explained explanation_of explain_of explain_list verdict_at eligible_from next_eligible_of
explaining = tt

batching : Unit {0}
unfolding requests_faults decisions_of batch_of batch_row batch_checked_of batch_checked_row
batching = tt

-- ---- boundaries: the halving, the levers, the calls

searching : Unit {0}
unfolding halve_in search_of search_after_far_end lever_at selects varied decision_at wins boundary_of with_model view_of
searching = tt

bounding : Unit {0}
unfolding win_levers win_search win_for win_by what_would_win_of margin_levers margin_for margin_by decision_margin_of
bounding = tt

-- ---- a bank whose models are swapped

slotting : Unit {0}
unfolding is_blank slot_faults live_faults live_by slot_with lowest_free
slotting = tt

editing : Unit {0}
unfolding offered_faults spent_faults compact_faults edit_faults add_faults slot_to_add slot_to_replace slot_to_remove raised_of
editing = tt

changing : Unit {0}
unfolding editing add_of add_bank replace_of replace_bank remove_of remove_bank closed_up compacted compact_of compact_bank
changing = tt

answering : Unit {0}
unfolding live_prescribe_of live_prescribe_checked_of live_prescribe_traced_of live_prescribe_traced_checked_of live_find_of live_utility_for_model_of
answering = tt

living : Unit {0}
unfolding answering live_explain_of live_explain_list live_batch_of live_batch_row live_batch_checked_of live_batch_checked_row live_what_would_win_of live_decision_margin_of
living = tt

-- ---- what is printed: numbers, lines, the programs' answers

printing : Unit {0}
unfolding text digits_of decimal signed_decimal spaced line decision_line counts_line cost_text lever_line lever_lines passes_line refused_line
printing = tt

reporting : Unit {0}
unfolding program_faults unit_report unit_text ask_faults ask_report ask_text print_of print_buffer
reporting = tt

-- ---- and sentences

wording : Unit {0}
unfolding sentence about comparing digit percent tenths_up percent_up of_model
wording = tt

standing : Unit {0}
unfolding later_gate_words gate_words budget_words worth_words key_words outranked_words reason_words standing_words
standing = tt

excusing : Unit {0}
unfolding too_many field_words range_words fault_words refused_words
excusing = tt

levering : Unit {0}
unfolding cost_words fall_words price_words unsearched_words rise_words latency_words lever_words levers_words off_words on_words searched_words
levering = tt

speaking : Unit {0}
unfolding wording standing excusing levering chosen_words risk_words confidence_words rejection_words choice_words stopped_words already_words model_words words_report ask_words
speaking = tt

-- ---- all of them

unfoldable pub rules : Unit {0}
unfolding bytes writing refusing validating trusting judging ordering deciding prescribing explaining batching searching bounding slotting changing living
    printing reporting speaking
rules = tt
