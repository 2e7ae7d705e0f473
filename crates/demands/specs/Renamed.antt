-- Places renamed in their order, and what answers are then: another place and another catalogue epoch, all else as it was.
use Rattle.std.specs.Prelude.{ℕ, zero, suc, ◌+◌, ◌<◌, ◌≡◌, List, [], ◌∷◌, map}
use Rattle.std.proofs.Math.Option.{Option, none, some}
use Rattle.rules.specs.Choice.{equal}
use Rattle.rules.specs.Records.{Listed, listed}
use Rattle.rules.specs.Refused.{Fault}
use Rattle.rules.specs.Numbers.{Decision, Boundary}
use Rattle.rules.specs.Listing.{Reading}
use Rattle.rules.specs.Verdict.{Judged}
use Rattle.rules.specs.Rank.{Candidate}
use Rattle.rules.specs.Trust.{id_of}
use Rattle.rules.specs.Levers.{Question}
use Rattle.rules.specs.declared.records.PolicySnapshot.{PolicySnapshot}

-- ---- what is renamed

-- A strictly rising renaming
abbrev pub Rises : (ℕ → ℕ) → Type 0
Rises f = (a b : ℕ) → a < b → f a < f b

-- A listed record, a judged one and a candidate at the new place
abbrev pub renamed : (ℕ → ℕ) → Listed → Listed
renamed f l = listed (f l.place) l.model

abbrev pub renamed_judged : (ℕ → ℕ) → Judged → Judged
renamed_judged f j = record { listed = renamed f j.listed; verdict = j.verdict }

abbrev pub renamed_candidate : (ℕ → ℕ) → Candidate → Candidate
renamed_candidate f c = record { utility = c.utility; cost = c.cost; quality = c.quality; id = c.id; place = f c.place }

-- A bank read at the new places
abbrev pub renamed_reading : (ℕ → ℕ) → Reading → Reading
renamed_reading f b = record { faults = b.faults; list = map (renamed f) b.list }

-- A policy with another catalogue epoch
abbrev pub policy_at : ℕ → PolicySnapshot → PolicySnapshot
policy_at epoch p = record {
  policy_epoch = p.policy_epoch;
  catalog_epoch = epoch;
  hard_risk_limit_bps = p.hard_risk_limit_bps;
  minimum_confidence_bps = p.minimum_confidence_bps;
  risk_penalty_multiplier_bps = p.risk_penalty_multiplier_bps;
  latency_penalty_microunits_per_ms = p.latency_penalty_microunits_per_ms;
  rounding = p.rounding;
  latency_allowance_ms = p.latency_allowance_ms;
}

-- ---- what the answers are then

-- The place of what was chosen; a rejection has none, and stays
unfoldable pub renamed_place : (ℕ → ℕ) → Decision → ℕ
renamed_place f d = equal d.action 3 d.place (f d.place)

-- A decision at the new place, under an epoch
abbrev pub moved_decision : (ℕ → ℕ) → ℕ → Decision → Decision
moved_decision f epoch d = record {
  sequence = d.sequence;
  action = d.action;
  reason = d.reason;
  model = d.model;
  place = renamed_place f d;
  cost = d.cost;
  utility = d.utility;
  counterfactual = d.counterfactual;
  counterfactual_utility = d.counterfactual_utility;
  evaluated = d.evaluated;
  eligible = d.eligible;
  policy_epoch = d.policy_epoch;
  catalog_epoch = epoch;
}

-- A question about the same model
abbrev pub moved_question : (ℕ → ℕ) → ℕ → Question → Question
moved_question f epoch a = record {
  costs = a.costs;
  policy = policy_at epoch a.policy;
  request = a.request;
  list = map (renamed f) a.list;
  id = a.id;
  model = a.model;
}

-- An answer of a boundary call: its decision moves; beside a refusal stands none that could
abbrev pub moved_beside : Option Fault → (ℕ → ℕ) → ℕ → Decision → Decision
moved_beside none f epoch d = moved_decision f epoch d
moved_beside (some n) f epoch d = d

abbrev pub moved_boundary : (ℕ → ℕ) → ℕ → Boundary → Boundary
moved_boundary f epoch b = record {
  refusal = b.refusal;
  model = b.model;
  decision = moved_beside b.refusal f epoch b.decision;
  blocked = b.blocked;
  levers = b.levers;
  count = b.count;
  passes = b.passes;
}

-- ---- two answers beside each other

-- Decisions that differ in place and catalogue epoch alone
pub record OnlyPlaceAndEpoch (d e : Decision) : Type 0 where
  pub sequence : d.sequence ≡ e.sequence
  pub action : d.action ≡ e.action
  pub reason : d.reason ≡ e.reason
  pub model : d.model ≡ e.model
  pub cost : d.cost ≡ e.cost
  pub utility : d.utility ≡ e.utility
  pub counterfactual : d.counterfactual ≡ e.counterfactual
  pub counterfactual_utility : d.counterfactual_utility ≡ e.counterfactual_utility
  pub evaluated : d.evaluated ≡ e.evaluated
  pub eligible : d.eligible ≡ e.eligible
  pub policy_epoch : d.policy_epoch ≡ e.policy_epoch

-- Answers of a boundary call that differ in their decision's place and catalogue epoch alone
pub record OnlyInDecision (b c : Boundary) : Type 0 where
  pub refusal : b.refusal ≡ c.refusal
  pub model : b.model ≡ c.model
  pub decision : OnlyPlaceAndEpoch b.decision c.decision
  pub blocked : b.blocked ≡ c.blocked
  pub levers : b.levers ≡ c.levers
  pub count : b.count ≡ c.count
  pub passes : b.passes ≡ c.passes

-- ---- which slot a live record had

-- Of slots, the first of which has a place: the place of the live one that so many live ones stand before; behind the last live one, any further on
unfoldable pub slot_of_live : ℕ → List (List ℕ) → ℕ → ℕ
slot_of_live place [] before = place + before
slot_of_live place (r ∷ rs) zero = equal (id_of r) 0 (slot_of_live (suc place) rs zero) place
slot_of_live place (r ∷ rs) (suc before) = equal (id_of r) 0 (slot_of_live (suc place) rs (suc before)) (slot_of_live (suc place) rs before)
