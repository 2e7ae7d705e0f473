-- A state with so many fewer that are switched off: a scan of all slots, less the free ones.
use Rattle.std.specs.Prelude.{ℕ, ◌-◌}
use Rattle.rules.specs.declared.decision.RejectionHistogram.{RejectionHistogram}
use Rattle.kernel_ranking.specs.declared.state.State.{State}

abbrev pub fewer_off : ℕ → RejectionHistogram → RejectionHistogram
fewer_off k c = record {
  disabled = c.disabled - k;
  quality = c.quality;
  risk_ceiling = c.risk_ceiling;
  latency = c.latency;
  capability = c.capability;
  provider = c.provider;
  region = c.region;
  budget = c.budget;
  utility = c.utility;
}

unfoldable pub less_off : State → ℕ → State
less_off s k = record { counts = fewer_off k s.counts; top = s.top; eligible = s.eligible }
