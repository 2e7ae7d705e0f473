-- `Paths` at document 01's example, where every test passes, and at a catalogue that takes the slow way. Assumes nothing.
use Rattle.rules.proofs.Kit.{◌≡◌, refl, ◌∙◌, true, false, List, [], ◌∷◌, List-as-Memᴰ, List·Memᴰ·head, List·Memᴰ·tail, some, bind, lit<, le_refl, pos}
use Rattle.rules.proofs.Kit.{replicate}
use Rattle.rules.specs.{Choice.below, Bytes.number, Records.model_of, Records.input_of, Records.policy_with, Records.policy_of, Price.billed, Price.billed_both}
use Rattle.rules.specs.{Price.cost_of, Utility.share_of, Utility.quality_term_of, Utility.risk_term_of, Utility.charged_ms, Utility.latency_term_of}
use Rattle.rules.specs.{Utility.exact_utility_of, Utility.utility_of, declared.records.KernelModel.KernelModel}
use Rattle.rules.specs.declared.records.Rounding.TheVariants.{Apart}
use Rattle.rules.proofs.Example.{model_one, model_two, policy, with}
use Rattle.demands.specs.{Machine.wrapping_mul, Machine.wrapping_add, Machine.checked, Machine.is_some, Widths.ModelTyped, Widths.RequestTyped}
use Rattle.demands.specs.{Paths.largest, Paths.model_cost_fast, Paths.all_costs_fit, Paths.quality_prefix, Paths.all_latencies_fit, Paths.pricing_utility}
use Rattle.demands.specs.{Paths.reference_utility}
use Rattle.demands.proofs.{BoundariesExample.p, BoundariesExample.q, Paths.utility-paths, Paths.utility-reference, Allowance.thirty_say_none}

abbrev two : KernelModel
two = model_of model_two

abbrev catalogue : List KernelModel
catalogue = model_of model_one ∷ two ∷ []

among : List-as-Memᴰ two catalogue
among = List·Memᴰ·tail (List·Memᴰ·head refl)

-- the fields are within their types, the policy of 30 bytes has no allowance, and every test passes
two_typed : ModelTyped two
unfolding model_of number
two_typed = record { quality = lit< tt; latency = lit< tt; input_price = lit< tt; output_price = lit< tt }

q_typed : RequestTyped q
unfolding input_of number
q_typed = record { input_tokens = lit< tt; output_tokens = lit< tt; value = lit< tt; risk = lit< tt; confidence = lit< tt }

no_allowance : p.latency_allowance_ms ≡ 0
no_allowance = thirty_say_none policy (le_refl 30)

costs : all_costs_fit catalogue q ≡ true
unfolding all_costs_fit largest is_some bind checked below model_of input_of number
costs = refl

prefix : quality_prefix catalogue q ≡ some 100000000
unfolding quality_prefix largest is_some bind checked below model_of input_of number
prefix = refl

latencies : all_latencies_fit p catalogue ≡ true
unfolding all_latencies_fit largest is_some checked below model_of policy_with policy_of number
latencies = refl

-- utility 6200, by the ways that the tests choose and by the slow ones
utility_6200 : utility_of p two q (cost_of Apart two q) ≡ pos 6200
unfolding utility_of exact_utility_of quality_term_of risk_term_of latency_term_of charged_ms share_of cost_of billed_both billed model_of input_of policy_with policy_of number
utility_6200 = refl

chosen_utility : pricing_utility p catalogue two q ≡ pos 6200
chosen_utility = utility-paths p two q two_typed q_typed no_allowance catalogue among ∙ utility_6200

slow_utility : reference_utility p two q ≡ pos 6200
slow_utility = utility-reference p two q two_typed q_typed no_allowance ∙ utility_6200

-- With a model whose price is 2 ^ 64 - 1 the test fails: its fast cost would have wrapped to 200, and model 2 takes the slow way to 6200
abbrev dear : KernelModel
dear = model_of (with 31 (replicate 8 255) model_two)

dear_fails : all_costs_fit (dear ∷ catalogue) q ≡ false
unfolding all_costs_fit largest is_some bind checked below model_of input_of number
dear_fails = refl

dear_costs : (model_cost_fast dear q ≡ 200) × (cost_of Apart dear q ≡ 1844674407371156)
unfolding model_cost_fast wrapping_mul wrapping_add cost_of billed_both billed model_of input_of number
dear_costs = (refl, refl)

dear_utility : pricing_utility p (dear ∷ catalogue) two q ≡ pos 6200
dear_utility = utility-paths p two q two_typed q_typed no_allowance (dear ∷ catalogue) (List·Memᴰ·tail among) ∙ utility_6200
