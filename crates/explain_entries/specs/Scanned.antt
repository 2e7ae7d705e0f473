-- What document 01 tells of a verdict within a scan.
use Rattle.rules.specs.Numbers.{Verdict, told_terms}
use Rattle.rules.specs.Gates.{detail_of}
use Rattle.rules.specs.Verdict.{rejected, over_budget}
use Rattle.rules.specs.declared.records.KernelModel.{KernelModel}
use Rattle.rules.specs.declared.records.KernelInput.{KernelInput}
use Rattle.pricing_terms.specs.Terms.{utility_terms_of}
use Rattle.kernel_verdict.specs.declared.Verdict as scan
use Rattle.kernel_verdict.specs.declared.Verdict.TheVariants.{Rejected, OverBudget, NonPositive, Eligible}

-- B6. A scan keeps the gate, the cost or the terms. With the model and the request they tell the rest: what the gate compared, the budget,
-- and the utility that a score stands for
unfoldable pub scanned : KernelInput → KernelModel → scan.Verdict → Verdict
scanned q m (Rejected gate) = rejected gate (detail_of m q gate)
scanned q m (OverBudget cost) = over_budget cost q.budget_limit_microunits
scanned q m (NonPositive t) = told_terms 3 (utility_terms_of t)
scanned q m (Eligible t) = told_terms 4 (utility_terms_of t)
