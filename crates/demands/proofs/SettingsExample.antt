-- Demand 3 beside rows (B) and (C), at variants of the example: passes of each kind of call, and a margin without a lever. The answers
-- themselves are rows of `rules/proofs/BoundaryRows`. Assumes nothing.
use Rattle.rules.proofs.Kit.{ℕ, ◌≤◌, ◌≡◌, refl, ◌∙◌, true, List, [], ◌∷◌, ◌++◌, replicate}
use Rattle.rules.proofs.{Opened.rules, Example.bank, Example.model_one, Example.model_two, Example.policy, Example.request, Example.with}
use Rattle.rules.specs.{Choice.below, Choice.at_least, Choice.equal, Bytes.number, Records.Listed, Records.listed, Records.model_of, Records.model_at}
use Rattle.rules.specs.{Records.input_of, Records.policy_with, Records.policy_of, Records.listed_of, Price.cost_under, Refused.length_faults, Numbers.is_rejection}
use Rattle.rules.specs.{Decide.stopped_by, Decide.decision_of, Listing.first_listed, Levers.Question, Levers.selects, Levers.wins, Win.what_would_win_of}
use Rattle.rules.specs.{Margin.margin_in, Margin.decision_margin_of, declared.records.KernelInput.KernelInput, declared.records.PolicySnapshot.PolicySnapshot}
use Rattle.demands.specs.Demand3.{question, of_lever, entries_for, passes_to_win, passes_to_win_in, passes_to_win_of, passes_to_keep_in, passes_to_keep_of, Sound}
use Rattle.demands.specs.Demand3.{Unselected, MarginExact}
use Rattle.demands.proofs.{Rounding.cost_rises, Margins.keep-exact, Validated.validated_sound, BoundariesExample.p, BoundariesExample.q}
use Rattle.demands.proofs.{BoundariesExample.first_is_two, BoundariesExample.decides_two, Passes.what-would-win-passes, Passes.decision-margin-passes}

-- validation accepts the example's bank, so that it is sound
sound : Sound bank
unfolding rules
sound = validated_sound p bank refl

-- model 2 alone with quality and ceiling 10,000, then 65,535, where latency costs nothing: the request asks for quality 4,992, latency 2 ^ 20,
-- risk 998 and a budget of 4,990
abbrev patient : PolicySnapshot
patient = policy_of (with 22 (0 ∷ []) policy)

abbrev demanding : KernelInput
demanding = input_of (with 28 (126 ∷ 19 ∷ []) (with 36 (230 ∷ 3 ∷ []) (with 40 (128 ∷ 19 ∷ 0 ∷ 0 ∷ 16 ∷ 0 ∷ []) request)))

-- both bounds of a margin are reached
reaches_99 : (decision_margin_of patient demanding (with 6 (16 ∷ 39 ∷ 16 ∷ 39 ∷ []) model_two)).passes ≡ 99
unfolding rules
reaches_99 = refl

reaches_103 : (decision_margin_of patient demanding (with 6 (replicate 4 255) model_two)).passes ≡ 103
unfolding rules
reaches_103 = refl

-- ---- a model that is off, free of charge

abbrev free : List ℕ
free = with 10 (0 ∷ []) (with 31 (replicate 16 0) model_one) ++ model_two

free_unselected : Unselected (cost_under p) p q (listed_of free) 1 (listed 0 (model_at free 0))
unfolding rules
free_unselected = record { listed = refl; runs_on = refl; not_selected = refl }

two_passes : (what_would_win_of p q free 1).passes ≡ 2
unfolding length_faults below equal model_of number passes_to_win passes_to_win_in passes_to_win_of
two_passes = what-would-win-passes p q free 1 ∙ rw (free_unselected.listed, free_unselected.runs_on, free_unselected.not_selected)

-- ---- stopped by a limit; selected already

abbrev risky : KernelInput
risky = input_of (with 36 (40 ∷ 35 ∷ []) request)

stopped_once : (what_would_win_of p risky bank 1).passes ≡ 1
unfolding rules passes_to_win passes_to_win_in passes_to_win_of
stopped_once = what-would-win-passes p risky bank 1

two_selected : selects 2 (decision_of p q (listed_of bank)) ≡ true
unfolding selects
two_selected = rw decides_two

selected_once : (what_would_win_of p q bank 2).passes ≡ 1
unfolding length_faults stopped_by at_least below equal number input_of policy_with policy_of passes_to_win passes_to_win_in passes_to_win_of
selected_once = what-would-win-passes p q bank 2 ∙ rw (first_is_two, two_selected)

-- ---- refused, no pass: an id that isn't listed, a bank of one byte, a rejection

unlisted : (what_would_win_of p q bank 3).passes ≡ 0
unfolding length_faults below equal number model_of listed_of first_listed passes_to_win_in passes_to_win_of
unlisted = what-would-win-passes p q bank 3

uneven : (decision_margin_of p q (0 ∷ [])).passes ≡ 0
unfolding length_faults below equal passes_to_keep_of
uneven = decision-margin-passes p q (0 ∷ [])

abbrev nameless : List ℕ
nameless = with 0 (0 ∷ []) model_one

abbrev broke : KernelInput
broke = input_of (with 28 (0 ∷ 0 ∷ []) request)

rejected : is_rejection (decision_of p broke (listed_of nameless)) ≡ true
unfolding rules
rejected = refl

no_margin : (decision_margin_of p broke nameless).passes ≡ 0
unfolding length_faults below equal passes_to_keep_in passes_to_keep_of
no_margin = decision-margin-passes p broke nameless ∙ rw rejected

-- ---- a margin without a lever: where latency costs nothing and none is asked for, model 2 alone stays chosen at every latency

abbrev alone : List Listed
alone = listed_of model_two

abbrev about_alone : Question
about_alone = question (cost_under patient) patient q alone (decision_of patient q alone).model (model_at model_two 0)

slowest : MarginExact (margin_in patient q alone) about_alone
unfolding rules
slowest = keep-exact (cost_under patient) patient q alone refl (listed 0 (model_at model_two 0)) refl (cost_rises patient.rounding) (tt, tt)

no_latency : entries_for 2 (margin_in patient q alone) ≡ []
unfolding rules of_lever
no_latency = refl

any_latency : (v : ℕ) → 50 ≤ v → v ≤ 4294967295 → wins about_alone 2 v ≡ true
unfolding model_of number
any_latency v h k = slowest.latency.missing.0 no_latency v (h, k)
