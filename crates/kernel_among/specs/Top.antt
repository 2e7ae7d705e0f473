-- The best two that a decision is made from.
use Rattle.std.specs.Prelude.{List, []}
use Rattle.rules.specs.Choice.{below}
use Rattle.rules.specs.Records.{Listed}
use Rattle.rules.specs.Verdict.{judged}
use Rattle.rules.specs.Rank.{ranking}
use Rattle.rules.specs.Decide.{stopped_by}
use Rattle.rules.specs.declared.records.KernelInput.{KernelInput}
use Rattle.rules.specs.declared.records.PolicySnapshot.{PolicySnapshot}
use Rattle.kernel_ranking.specs.State.{top_of}
use Rattle.kernel_ranking.specs.declared.state.Top.{Top}

-- D1, D2, D22. The first two of a list's ranking; a stopped request ranks none
unfoldable pub top_in : PolicySnapshot → KernelInput → List Listed → Top
top_in p q ls = below 0 (stopped_by p q) (top_of []) (top_of (ranking (judged p q ls)))
