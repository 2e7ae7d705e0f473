-- The utility that a scan of one record comes to.
use Rattle.std.specs.Prelude.{ℤ}
use Rattle.rules.specs.Choice.{equal}
use Rattle.rules.specs.Refused.{fault, Answer, refused, answered}
use Rattle.pricing_terms.specs.Score.{unscored}
use Rattle.kernel_ranking.specs.declared.state.State.{State}

-- N7. The best one's utility, refused where nothing is eligible
unfoldable pub worth_from : State → Answer ℤ
worth_from s = equal s.eligible 0 (refused (fault 7)) (answered (unscored s.top.best.score))
