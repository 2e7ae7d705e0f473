-- Rows on the cost at its edges under both rules, and on the order in which tag 4 is refused (document 02, d). Assumes nothing.
use Rattle.rules.proofs.Kit.{ℕ, ◌-◌, ◌*◌, ◌^◌, refl, List, [], ◌∷◌, ◌++◌, map, Option, none, some}
use Rattle.rules.specs.{Bytes.bytes_of, Records.model_of, Records.input_of, Refused.Fault, Refused.fault, Refused.first_fault, Stored.field_faults}
use Rattle.rules.specs.{Price.billed_both, Price.cost_of}
use Rattle.rules.specs.declared.records.Rounding.TheVariants.{Apart, Once}
use Rattle.rules.proofs.{Opened.rules, Rows.Row, Rows.says, Example.model_one, Example.request, Example.with}

-- a model with two prices, and a request for so many tokens each way
abbrev pub at : ℕ → ℕ → List ℕ
at input output = with 31 (bytes_of 8 input ++ bytes_of 8 output) model_one

abbrev pub tokens : ℕ → ℕ → List ℕ
tokens input output = with 12 (bytes_of 4 input ++ bytes_of 4 output) request

-- what it costs apart, and what once
abbrev both_costs : ℕ → ℕ → ℕ → ℕ → List ℕ
both_costs input input_price output output_price =
    map (λ r. cost_of r (model_of (at input_price output_price)) (input_of (tokens input output))) (Apart ∷ Once ∷ [])

cost_rows : List Row
unfolding rules
cost_rows =
    says "one token each way, at price 1" (both_costs 1 1 1 1) (2 ∷ 1 ∷ []) refl
    ∷ says "a sum of 999,999" (both_costs 1 599999 1 400000) (2 ∷ 1 ∷ []) refl
    ∷ says "a sum of 1,000,000" (both_costs 1 600000 1 400000) (2 ∷ 1 ∷ []) refl
    ∷ says "a sum of 1,000,001" (both_costs 1 600000 1 400001) (2 ∷ 2 ∷ []) refl
    ∷ says "two whole millions" (both_costs 1 1000000 1 1000000) (2 ∷ 2 ∷ []) refl
    ∷ says "one direction alone" (both_costs 1 1000001 0 1) (2 ∷ 2 ∷ []) refl
    ∷ says "prices 0" (both_costs 4294967295 0 4294967295 0) (0 ∷ 0 ∷ []) refl
    ∷ says "no tokens" (both_costs 0 18446744073709551615 0 18446744073709551615) (0 ∷ 0 ∷ []) refl
    ∷ says "a rounded sum of 2 ^ 64 - 2" (both_costs 1000000 (2 ^ 64 - 2) 0 0) ((2 ^ 64 - 2) ∷ (2 ^ 64 - 2) ∷ []) refl
    ∷ says "2 ^ 64 - 1 both ways" (both_costs 1000000 (2 ^ 64 - 2) 2 1) ((2 ^ 64 - 1) ∷ (2 ^ 64 - 1) ∷ []) refl
    ∷ says "a rounded sum of 2 ^ 64 - 2, and one more apart" (both_costs 999999 (2 ^ 64 - 2) 1 (2 ^ 64 - 2)) ((2 ^ 64 - 1) ∷ (2 ^ 64 - 2) ∷ []) refl
    ∷ says "2 ^ 64 - 1 once, and 2 ^ 64 apart" (map (λ r. billed_both r (999999 * (2 ^ 64 - 1)) (2 ^ 64 - 1)) (Apart ∷ Once ∷ []))
    ((2 ^ 64) ∷ (2 ^ 64 - 1) ∷ [])
    refl
    ∷ says "which is held" (both_costs 999999 (2 ^ 64 - 1) 1 (2 ^ 64 - 1)) ((2 ^ 64 - 1) ∷ (2 ^ 64 - 1) ∷ []) refl
    ∷ says "2 ^ 64 once" (billed_both Once (1000000 * (2 ^ 64 - 1)) 1) (2 ^ 64) refl
    ∷ says "2 ^ 64 is held" (both_costs 1000000 (2 ^ 64 - 1) 1 1) ((2 ^ 64 - 1) ∷ (2 ^ 64 - 1) ∷ []) refl
    ∷ says "the highest of all" (both_costs 4294967295 18446744073709551615 4294967295 18446744073709551615) ((2 ^ 64 - 1) ∷ (2 ^ 64 - 1) ∷ []) refl
    ∷ []

-- ---- tag 4

-- what the first fault is where tag 4 is due
abbrev refused_by : List ℕ → Option Fault
refused_by s = first_fault (field_faults 4 s)

field_rows : List Row
unfolding rules
field_rows =
    says "a body of 1" (refused_by (4 ∷ 1 ∷ 0 ∷ 1 ∷ [])) none refl
    ∷ says "a body of 0: 23" (refused_by (4 ∷ 1 ∷ 0 ∷ 0 ∷ [])) (some (fault 23)) refl
    ∷ says "another length and another body: 22, before 23" (refused_by (4 ∷ 2 ∷ 0 ∷ 0 ∷ 0 ∷ [])) (some (fault 22)) refl
    ∷ says "another length, and cut: 22, before 20" (refused_by (4 ∷ 2 ∷ 0 ∷ 1 ∷ [])) (some (fault 22)) refl
    ∷ says "a cut body: 20, before 23" (refused_by (4 ∷ 1 ∷ 0 ∷ [])) (some (fault 20)) refl
    ∷ []
