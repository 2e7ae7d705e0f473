-- What a record's verdict does to the state of a scan, and some records' verdicts.
use Rattle.std.specs.Prelude.{ℕ}
use mathlib.Core.List.{List, foldl}
use Rattle.rules.specs.Records.{Listed}
use Rattle.rules.specs.declared.records.KernelModel.{KernelModel}
use Rattle.rules.specs.declared.records.KernelInput.{KernelInput}
use Rattle.pricing.specs.declared.Pricing.{Pricing}
use Rattle.kernel_verdict.specs.Verdict.{verdict_in, counted_of, entering_of}
use Rattle.kernel_verdict.specs.declared.Verdict.{Verdict}
use Rattle.kernel_verdict.specs.declared.Verdict.TheVariants.{Rejected, OverBudget, NonPositive, Eligible}
use Rattle.kernel_ranking.specs.State.{state_entered}
use Rattle.kernel_ranking.specs.declared.state.State.{State}

-- One record more, by its verdict
unfoldable pub state_after : State → ℕ → KernelModel → Verdict → State
state_after s place m (Rejected gate) = record { counts = counted_of s.counts (Rejected gate); top = s.top; eligible = s.eligible }
state_after s place m (OverBudget cost) = record { counts = counted_of s.counts (OverBudget cost); top = s.top; eligible = s.eligible }
state_after s place m (NonPositive t) = record { counts = counted_of s.counts (NonPositive t); top = s.top; eligible = s.eligible }
state_after s place m (Eligible t) = state_entered s (entering_of m place t)

-- The state after some listed records more, as the scan takes them
unfoldable pub scan_of : Pricing → KernelInput → State → List Listed → State
scan_of pr q s ls = foldl (λ s l. state_after s l.place l.model (verdict_in pr q l.model)) s ls
