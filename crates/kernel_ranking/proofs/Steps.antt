-- One record more in a scan, and some: by its verdict as the rules tell it. Assumes nothing.
use Rattle.rules.proofs.Kit.{ℕ, List, foldl}
use Rattle.rules.specs.{Records.Listed, Numbers.where_eligible, Verdict.Judged, Verdict.judge, Count.counted_for, Count.raised_by}
use Rattle.rules.specs.{declared.records.KernelInput.KernelInput, declared.records.PolicySnapshot.PolicySnapshot}
use Rattle.rules.specs.Rank as rank
use Rattle.kernel_ranking.specs.{State.held_of, State.state_entered, declared.state.State.State}

-- A record that isn't eligible raises a count, any other one enters the ranking
unfoldable pub turned_away : State → ℕ → State
turned_away s reason = record { counts = raised_by s.counts reason; top = s.top; eligible = s.eligible }

unfoldable pub step_of : State → Judged → State
step_of s j =
    where_eligible j.verdict (state_entered s (held_of (rank.candidate_of j))) (turned_away s (counted_for j.verdict))

-- The state after some listed records more
unfoldable pub run_of : PolicySnapshot → KernelInput → State → List Listed → State
run_of p q s ls = foldl (λ s l. step_of s (judge p q l)) s ls
