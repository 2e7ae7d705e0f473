-- `unpacking_policy::policy_with` meets its contract: each field is what its reading ensures. Assumes nothing.
use Rattle.rules.specs.Records.{policy_with}
use Rattle.unpacking_policy.proofs.policy_with.Goals as goal

pub returns : goal.returns
unfolding policy_with
returns c =
    λ i. record {
      policy_epoch = c.u64_at.ensures i;
      catalog_epoch = c.u64_at-2.ensures i;
      hard_risk_limit_bps = c.u16_at.ensures i;
      minimum_confidence_bps = c.u16_at-2.ensures i;
      risk_penalty_multiplier_bps = c.u16_at-3.ensures i;
      latency_penalty_microunits_per_ms = c.u64_at-3.ensures i;
      rounding = c.args.rounding;
      latency_allowance_ms = c.args.allowance;
    }
