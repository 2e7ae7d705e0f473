-- BEFORE AND AFTER A COMPACTION, under the old policy and the raised one: a decision differs in place and epoch alone; verdicts, counts, utilities,
-- levers and passes are the same. Each follows from one law of places that rise (`Renaming`). Assumed for the calls: the bank has neither 1, 2 nor 34.
use Rattle.rules.proofs.Kit.{ℕ, ◌+◌, ◌≡◌, sym, ap, subst, ◌∙◌, List, [], map, length}
use mathlib.Core.Option
use Rattle.rules.specs.{Choice.below, Refused.refused, Refused.answered, Refused.unless, Numbers.Decision, Price.cost_under, Verdict.judged, Decide.stopped_by}
use Rattle.rules.specs.{Decide.decision_of, Decide.counts_in, Decide.utility_for_model_over, Explain.explained, Explain.explanation_of, Listing.first_listed}
use Rattle.rules.specs.{Listing.place_of, Trust.records_of, Slots.live_faults, Slots.live_slots, Slots.live_in, Slots.live_records, Slots.slot_with}
use Rattle.rules.specs.{Edits.compact_faults, Edits.raised_of, Edits.raised_with, Edits.compacted, Edits.compact_of, Edits.compact_bank, Live.live_prescribe_of}
use Rattle.rules.specs.{Live.live_utility_for_model_of, Win.what_would_win_over, Margin.decision_margin_over, Live.live_what_would_win_of, Live.live_decision_margin_of}
use Rattle.rules.specs.{declared.records.KernelInput.KernelInput, declared.records.PolicySnapshot.PolicySnapshot}
use Rattle.demands.specs.Renamed.{renamed_judged, renamed_reading, renamed_place, moved_decision, OnlyPlaceAndEpoch, OnlyInDecision, slot_of_live}
use Rattle.demands.proofs.{Renaming.decision-moved, Renaming.epoch_is, Renaming.only_moved, MovedAnswers.place-renamed, MovedAnswers.verdicts-moved}
use Rattle.demands.proofs.{MovedAnswers.counts_moved, MovedAnswers.room_moved, MovedAnswers.utility-moved, MovedBoundaries.win-over-moves}
use Rattle.demands.proofs.{MovedBoundaries.margin-over-moves, MovedBoundaries.only_in_decision, Closing.compacted-faultless, Closing.slot_rises}
use Rattle.demands.proofs.{Closing.compaction-renames}

-- S8. A COMPACTION THAT ISN'T REFUSED answers the raised policy and the number of live records, and closes the gaps
pub compaction_done : (p : PolicySnapshot) (bank : List ℕ) → compact_faults p bank ≡ []
    → (compact_of p bank ≡ answered (raised_with p (length (live_slots (records_of bank))))) × (compact_bank p bank ≡ compacted bank)
unfolding compact_of compact_bank
compaction_done p bank none = (rw none, rw none)

module _ (bank : List ℕ) where
  -- the slot that the live record at a place had
  abbrev slot : ℕ → ℕ
  slot = slot_of_live 0 (records_of bank)

  module _ (p : PolicySnapshot) (q : KernelInput) where
    -- the decisions before and after
    abbrev before : Decision
    before = decision_of p q (live_in bank)

    abbrev after : Decision
    after = decision_of (raised_of p) q (live_in (compacted bank))

    moves : before ≡ moved_decision slot p.catalog_epoch after
    unfolding raised_of
    moves =
        ap (decision_of p q) (compaction-renames bank)
        ∙ decision-moved slot p.catalog_epoch (raised_of p) q (slot_rises 0 (records_of bank)) (cost_under p) (live_in (compacted bank))

    -- Document 02, i. A DECISION BEFORE AND AFTER A COMPACTION DIFFERS ONLY IN PLACE AND EPOCH
    pub compaction-decides : OnlyPlaceAndEpoch before after
    compaction-decides = rw moves (only_moved slot p.catalog_epoch after)

    -- S8. THE PLACE BEFORE is the slot that the record at the place after had; a rejection has no place
    pub compaction-place : before.place ≡ renamed_place slot after
    compaction-place = ap (λ (d : Decision). d.place) moves

    -- S7. THE EPOCHS are the old one and one more
    pub compaction-epochs : (before.catalog_epoch ≡ p.catalog_epoch) × (after.catalog_epoch ≡ p.catalog_epoch + 1)
    unfolding raised_of
    compaction-epochs = (epoch_is (cost_under p) p q (live_in bank), epoch_is (cost_under p) (raised_of p) q (live_in (compacted bank)))

    -- D3, D14, D19. THE VERDICTS ARE THE SAME, record by record
    pub compaction-verdicts : judged p q (live_in bank) ≡ map (renamed_judged slot) (judged (raised_of p) q (live_in (compacted bank)))
    unfolding raised_of
    compaction-verdicts =
        ap (judged p q) (compaction-renames bank) ∙ verdicts-moved slot p.catalog_epoch (raised_of p) q (live_in (compacted bank))

    -- D27. SO THE EXPLANATION IS THE SAME, but for bytes 4 and 5 of each record, which say the slot (`explained_at`)
    pub compaction-explains : explanation_of p q (live_in bank)
        ≡ below 0 (stopped_by p q) [] (explained (map (renamed_judged slot) (judged (raised_of p) q (live_in (compacted bank)))))
    unfolding explanation_of
    compaction-explains = rw compaction-verdicts

    -- N4. and asks for as much room
    pub compaction-room : length (explanation_of p q (live_in bank)) ≡ length (explanation_of (raised_of p) q (live_in (compacted bank)))
    unfolding raised_of
    compaction-room =
        ap (λ ls. length (explanation_of p q ls)) (compaction-renames bank)
        ∙ room_moved slot p.catalog_epoch (raised_of p) q (live_in (compacted bank))

    -- D23. THE COUNTS ARE THE SAME
    pub compaction-counts : counts_in p q (live_in bank) ≡ counts_in (raised_of p) q (live_in (compacted bank))
    unfolding raised_of
    compaction-counts =
        ap (counts_in p q) (compaction-renames bank) ∙ counts_moved slot p.catalog_epoch (raised_of p) q (live_in (compacted bank))

  -- R1. A MODEL'S SLOT BEFORE is the slot that the record at its place after had
  pub compaction-finds : (id : ℕ) → slot_with id bank ≡ Option.map slot (slot_with id (compacted bank))
  unfolding slot_with
  compaction-finds id = ap (λ ls. place_of (first_listed id ls)) (compaction-renames bank) ∙ place-renamed slot id (live_in (compacted bank))

  -- ---- the calls

  module _ (clean : live_faults bank ≡ []) where
    -- THE BANK READ BEFORE is the one read after, at the old places
    pub compaction-reads : live_records bank ≡ renamed_reading slot (live_records (compacted bank))
    compaction-reads = λ i. record { faults = (clean ∙ sym (compacted-faultless bank clean)) i; list = compaction-renames bank i }

    module _ (p : PolicySnapshot) (q : KernelInput) where
      -- S9. The decisions above are what the calls answer
      pub compaction-prescribes : (live_prescribe_of p q bank ≡ answered (before p q)) × (live_prescribe_of (raised_of p) q (compacted bank) ≡ answered (after p q))
      unfolding live_prescribe_of
      compaction-prescribes = (rw clean, rw (compacted-faultless bank clean))

      -- N7. THE UTILITY OF A MODEL IS THE SAME, and so is its refusal
      pub compaction-utility : (id : ℕ) → live_utility_for_model_of p q id bank ≡ live_utility_for_model_of (raised_of p) q id (compacted bank)
      unfolding live_utility_for_model_of raised_of
      compaction-utility id =
          ap (utility_for_model_over p q id) compaction-reads
          ∙ ap (unless (live_faults (compacted bank)) refused) (utility-moved slot p.catalog_epoch (raised_of p) q (live_in (compacted bank)) id)

      -- Demand 3. WHAT WOULD WIN IS THE SAME but for the decision's place and epoch: refusal, whether it is blocked, levers, their number, passes
      pub compaction-wins : (id : ℕ) → OnlyInDecision (live_what_would_win_of p q bank id) (live_what_would_win_of (raised_of p) q (compacted bank) id)
      unfolding live_what_would_win_of raised_of
      compaction-wins id =
          subst (λ b. OnlyInDecision b (what_would_win_over (raised_of p) q (live_records (compacted bank)) id))
          (sym (ap (λ b. what_would_win_over p q b id) compaction-reads
          ∙ win-over-moves slot (slot_rises 0 (records_of bank)) p.catalog_epoch (raised_of p) q (live_records (compacted bank)) id))
          (only_in_decision slot p.catalog_epoch _)

      -- Demand 3. AND SO IS THE MARGIN
      pub compaction-margins : OnlyInDecision (live_decision_margin_of p q bank) (live_decision_margin_of (raised_of p) q (compacted bank))
      unfolding live_decision_margin_of raised_of
      compaction-margins =
          subst (λ b. OnlyInDecision b (decision_margin_over (raised_of p) q (live_records (compacted bank))))
          (sym (ap (decision_margin_over p q) compaction-reads
          ∙ margin-over-moves slot (slot_rises 0 (records_of bank)) p.catalog_epoch (raised_of p) q (live_records (compacted bank))))
          (only_in_decision slot p.catalog_epoch _)
