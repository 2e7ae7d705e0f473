-- Edits and a compaction at document 01's models: a bank of three slots, edited from an empty one. Assumes nothing.
use Rattle.rules.proofs.Kit.{ℕ, ◌≡◌, refl, sym, ap, subst, ◌∙◌, List, [], ◌∷◌, ◌++◌, map, some, arith, pos, length, ◌≤◌, take, drop}
use Rattle.rules.specs.{Bytes.bytes_of, Records.listed, Records.model_of, Verdict.Judged, Verdict.judge, Explain.explanation_record, Explain.explained}
use Rattle.rules.specs.{Explain.explanation_of, Choice.below, Choice.at_least, Bytes.number, Records.input_of, Records.policy_with, Records.policy_of}
use Rattle.rules.specs.{Decide.stopped_by, Refused.answered, Decide.decision_of, Decide.counts_in, Trust.records_of, Slots.free_slot, Slots.live_faults, Slots.live_in}
use Rattle.rules.specs.{Slots.slot_with, Edits.add_of, Edits.add_bank, Edits.remove_bank, Edits.raised_of, Edits.raised_with, Edits.compacted, Edits.compact_of}
use Rattle.rules.specs.{Edits.compact_bank, Live.live_prescribe_of, Live.live_what_would_win_of, Live.live_decision_margin_of, Live.live_utility_for_model_of, Edits.remove_of}
use Rattle.rules.specs.{Slots.lowest_free, Verdict.judged}
use Rattle.rules.proofs.{Opened.rules, Example.model_one, Example.model_two, Example.named, Example.bank, Example.decision, Example.choice, Example.lever}
use Rattle.rules.proofs.{Example.no_lever, Example.no_counts}
use Rattle.demands.specs.{Edited.Edit, Edited.adding, Edited.replacing, Edited.removing, Edited.compacting, Edited.after_edits, Edited.empty_bank}
use Rattle.demands.specs.{Edited.Tidy, Edited.InLowestFree, Renamed.OnlyPlaceAndEpoch, Renamed.renamed_place, Renamed.slot_of_live, Renamed.renamed_judged}
use Rattle.demands.proofs.{MovedAnswers.explained_at, BoundariesExample.p, BoundariesExample.q, Edited.from-empty-length, Edited.from-empty-tidy}
use Rattle.demands.proofs.{Edited.edits_keep_tidy, Freed.add_takes_lowest, Freed.freed-has-room, Freed.freed-is-used, AsBefore.full-answers-as-before}
use Rattle.demands.proofs.{Compacting.compaction_done, Compacting.compaction-decides, Compacting.compaction-wins, Compacting.compaction-place}
use Rattle.demands.proofs.{Compacting.compaction-epochs, Compacting.compaction-prescribes, Compacting.compaction-finds, Compacting.compaction-counts}
use Rattle.demands.proofs.{Compacting.compaction-verdicts, Compacting.compaction-room, Compacting.compaction-explains, Compacting.compaction-utility}
use Rattle.demands.proofs.{Compacting.compaction-margins}

-- two more models: the example's under other ids
abbrev pub eight : List ℕ
eight = named 8 model_two

abbrev pub nine : List ℕ
nine = named 9 model_one

-- three models are added, one of them twice, which is refused; the first is removed
abbrev pub row : List Edit
row = adding p nine ∷ adding p model_one ∷ adding p model_two ∷ adding p model_one ∷ removing p 9 ∷ []

abbrev pub swapped : List ℕ
swapped = free_slot ++ model_one ++ model_two

pub row_leaves : after_edits (empty_bank 3) row ≡ swapped
unfolding rules
row_leaves = refl

-- ---- a tidy bank of 141 bytes

as_long : length swapped ≡ 141
as_long = ap length (sym row_leaves) ∙ from-empty-length 3 row

is_tidy : Tidy swapped
is_tidy = subst Tidy row_leaves (from-empty-tidy 3 row)

-- which stays so whatever comes after it: a replacement, the removal of a model that isn't there, a compaction, a record of one byte
abbrev later : List Edit
later = replacing p model_one ∷ removing p 9 ∷ compacting p ∷ adding p (1 ∷ []) ∷ []

stays_tidy : Tidy (after_edits swapped later)
stays_tidy = edits_keep_tidy later swapped is_tidy

-- ---- the lowest free slot

-- model 8 is added into slot 0, below which there is none
adds_at_zero : add_of p swapped eight ≡ answered (raised_with p 0)
unfolding rules
adds_at_zero = refl

takes_zero : InLowestFree eight 0 (records_of swapped) (records_of (add_bank p swapped eight))
takes_zero = add_takes_lowest p swapped eight (raised_with p 0) adds_at_zero

-- from a full bank model 1 is removed out of slot 1, and model 8 is added there
abbrev full : List ℕ
full = nine ++ model_one ++ model_two

removes_at_one : remove_of p full 1 ≡ answered (raised_with p 1)
unfolding rules
removes_at_one = refl

has_room : (slot : ℕ) × (lowest_free (remove_bank p full 1) ≡ some slot) × (slot ≤ 1)
has_room = freed-has-room p full 1 (raised_with p 1) removes_at_one

used_again : add_of (raised_of p) (remove_bank p full 1) eight ≡ answered (raised_with (raised_of p) 1)
unfolding rules
used_again = freed-is-used p full 1 (raised_with p 1) removes_at_one (raised_of p) eight ((λ e. omega arith), tt) refl

-- ---- no slot free: as before

as_before : live_prescribe_of p q bank ≡ answered choice
unfolding rules
as_before = (full-answers-as-before bank ((λ e. omega arith), ((λ e. omega arith), tt))).prescribe p q

-- ---- a compaction: models 1 and 2 move from slots 1 and 2 to 0 and 1, and the epoch from 3 to 4

no_fault_lem : live_faults swapped ≡ []
unfolding rules
no_fault_lem = refl

closes : (compact_of p swapped ≡ answered (raised_with p 2)) × (compact_bank p swapped ≡ compacted swapped)
unfolding rules
closes = compaction_done p swapped refl

at_slot_two : decision_of p q (live_in swapped) ≡ decision 42 2 2 2 2 300 (pos 6200) 1 (pos 5200) 2 2 7 3
unfolding rules
at_slot_two = refl

at_slot_one : decision_of (raised_of p) q (live_in (compacted swapped)) ≡ decision 42 2 2 2 1 300 (pos 6200) 1 (pos 5200) 2 2 7 4
unfolding rules
at_slot_one = refl

only_place_and_epoch : OnlyPlaceAndEpoch (decision_of p q (live_in swapped)) (decision_of (raised_of p) q (live_in (compacted swapped)))
only_place_and_epoch = compaction-decides swapped p q

-- slot 2 is that of the second live record
from_two : (decision_of p q (live_in swapped)).place ≡ 2
unfolding rules renamed_place slot_of_live
from_two = compaction-place swapped p q

three_and_four : ((decision_of p q (live_in swapped)).catalog_epoch ≡ 3) × ((decision_of (raised_of p) q (live_in (compacted swapped))).catalog_epoch ≡ 4)
unfolding rules
three_and_four = compaction-epochs swapped p q

answers_so : (live_prescribe_of p q swapped ≡ answered (decision 42 2 2 2 2 300 (pos 6200) 1 (pos 5200) 2 2 7 3))
    × (live_prescribe_of (raised_of p) q (compacted swapped) ≡ answered (decision 42 2 2 2 1 300 (pos 6200) 1 (pos 5200) 2 2 7 4))
unfolding rules
answers_so = compaction-prescribes swapped no_fault_lem p q

found_from : slot_with 2 swapped ≡ some 2
unfolding rules slot_of_live
found_from = compaction-finds swapped 2

same_counts : counts_in p q (live_in swapped) ≡ no_counts
unfolding rules
same_counts = compaction-counts swapped p q

same_verdicts : judged p q (live_in swapped) ≡ map (renamed_judged (slot_of_live 0 (records_of swapped))) (judged (raised_of p) q (live_in (compacted swapped)))
same_verdicts = compaction-verdicts swapped p q

-- two records of 72 bytes
same_room : length (explanation_of p q (live_in swapped)) ≡ 144
unfolding rules
same_room = compaction-room swapped p q

same_explanation : explanation_of p q (live_in swapped)
    ≡ explained (map (renamed_judged (slot_of_live 0 (records_of swapped))) (judged (raised_of p) q (live_in (compacted swapped))))
unfolding below stopped_by at_least number input_of policy_with policy_of
same_explanation = compaction-explains swapped p q

-- the explanation of model 2 as the compacted bank lists it, at place 1, and as the bank did, at slot 2: all but two bytes are the same
abbrev moved_two : Judged
moved_two = judge p q (listed 1 (model_of model_two))

explained_there : explanation_record (judge p q (listed 2 (model_of model_two)))
    ≡ take 4 (explanation_record moved_two) ++ (2 ∷ 0 ∷ []) ++ drop 6 (explanation_record moved_two)
unfolding bytes_of slot_of_live rules
explained_there = explained_at (slot_of_live 0 (records_of swapped)) moved_two

same_utility : live_utility_for_model_of p q 1 swapped ≡ answered (pos 5200)
unfolding rules
same_utility = compaction-utility swapped no_fault_lem p q 1

-- what would win for model 1, after the compaction as before it
win_before : (live_what_would_win_of p q swapped 1).levers ≡ lever 3 1000000 443333 (some 798) ∷ no_lever ∷ no_lever ∷ no_lever ∷ []
unfolding rules
win_before = refl

win_after : (live_what_would_win_of (raised_of p) q (compacted swapped) 1).levers ≡ lever 3 1000000 443333 (some 798) ∷ no_lever ∷ no_lever ∷ no_lever ∷ []
win_after = sym (compaction-wins swapped no_fault_lem p q 1).levers ∙ win_before

-- and the margin's passes
passes_before : (live_decision_margin_of p q swapped).passes ≡ 95
unfolding rules
passes_before = refl

passes_after : (live_decision_margin_of (raised_of p) q (compacted swapped)).passes ≡ 95
passes_after = sym (compaction-margins swapped no_fault_lem p q).passes ∙ passes_before
