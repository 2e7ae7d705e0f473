-- Document 01, "What must change shape": the decision over a bank in which one model stands in for a record.
use Rattle.std.specs.Prelude.{ℕ, List, set}
use Rattle.rules.specs.Records.{Listed, listed, listed_of}
use Rattle.rules.specs.Refused.{bank_faults, Answer, answered, unless, refused}
use Rattle.rules.specs.Numbers.{Decision}
use Rattle.rules.specs.Decide.{decision_of}
use Rattle.rules.specs.declared.records.KernelModel.{KernelModel}
use Rattle.rules.specs.declared.records.KernelInput.{KernelInput}
use Rattle.rules.specs.declared.records.PolicySnapshot.{PolicySnapshot}

-- X7. The list with a model in the record at an index; an index beyond the list leaves it as it is
unfoldable pub with_model : List Listed → ℕ → KernelModel → List Listed
with_model ls index m = set ls index (listed index m)

-- X7. The decision through a view
unfoldable pub view_of : PolicySnapshot → KernelInput → List ℕ → ℕ → KernelModel → Answer Decision
view_of p q bank index m = unless (bank_faults bank) refused (answered (decision_of p q (with_model (listed_of bank) index m)))
