-- A reason with its count, in document 01's numbers.
use Rattle.rules.specs.Numbers.{reason_no}
use Rattle.rules.specs.Count.{Weight, weight}
use Rattle.kernel_ranking.specs.declared.reason.Weighed.{Weighed}

abbrev pub told_weight : Weighed → Weight
told_weight w = weight w.count (reason_no w.reason)
