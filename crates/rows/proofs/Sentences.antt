-- Rows on the desk's sentences: each of them at least once. Assumes nothing.
use Rattle.rules.proofs.Kit.{ℕ, refl, List, [], ◌∷◌, ◌++◌, none, some, pos, replicate}
use Rattle.rules.specs.{Refused.fault, Refused.input_fault, Refused.policy_fault, Refused.model_fault, Phrases.percent_up}
use Rattle.rules.specs.{NotChosen.of_model, NotChosen.gate_words, NotChosen.key_words, FaultWords.fault_words, Text.text}
use Rattle.rules.specs.{Words.fall_words, Words.levers_words, Words.ask_words}
use Rattle.rules.proofs.{Opened.rules, Rows.Row, Rows.says, Example.model_one, Example.model_two, Example.bank, Example.request}
use Rattle.rules.proofs.{Example.with, Example.at_hard_limit, Example.unsure, Example.valueless, Example.lever}
use Rattle.rows.proofs.Printing.{is, input, input_of_bank, risky, unknown}

-- the choice of the example
abbrev second : List ℕ
second = is "Chosen: model 2, at a cost of 300 microunits, with a utility of 6200 microunits."

-- model 1 switched off, and also free of charge
abbrev off : List ℕ
off = with 10 (0 ∷ []) model_one

abbrev free : List ℕ
free = with 31 (replicate 16 0) off

-- what is said of model 1 for another request
abbrev asked : List ℕ → List ℕ
asked q = ask_words 1 (input_of_bank bank q)

-- and that no price would do
abbrev no_price : List ℕ
no_price = is "Price alone: no price, not even 0, would make it the choice."

abbrev no_other : List ℕ
no_other = is "Nor would its quality, latency or risk ceiling alone."

pub answer_rows : List Row
unfolding rules
answer_rows =
    says "(B) in words" (ask_words 1 input)
    (second
    ++ is "Model 1 is outranked by model 2: its utility of 5200 microunits is below 6200."
    ++ is "Price alone: it must fall by 55.7 percent or more; exactly, by 55.6667 percent, to 44.3333 percent of today's, where the request costs 798 microunits.")
    refl
    ∷ says "chosen already" (ask_words 2 input)
    (second ++ is "Model 2 is chosen already." ++ is "Price alone: not searched, since the model is chosen already.")
    refl
    ∷ says "stopped by its risk" (asked at_hard_limit)
    (is "Nothing is chosen: the request is stopped, since its risk of 9000 basis points is not below the policy's hard limit of 9000."
    ++ is "No change to a model would help."
    ++ is "Price alone: not searched, since the request is stopped.")
    refl
    ∷ says "stopped by its confidence" (asked unsure)
    (is "Nothing is chosen: the request is stopped, since its confidence of 1999 basis points is below the policy's minimum of 2000."
    ++ is "No change to a model would help."
    ++ is "Price alone: not searched, since the request is stopped.")
    refl
    ∷ says "off, at its price" (ask_words 1 (input_of_bank (off ++ model_two) request))
    (second
    ++ is "Model 1 is switched off."
    ++ is "Price alone: not searched, since the model is switched off."
    ++ is "Switched on, it would still not be chosen.")
    refl
    ∷ says "off, and free of charge" (ask_words 1 (input_of_bank (free ++ model_two) request))
    (second
    ++ is "Model 1 is switched off."
    ++ is "Price alone: not searched, since the model is switched off."
    ++ is "Switched on, it would be chosen.")
    refl
    ∷ says "a minimum quality of 9,500" (asked (with 40 (28 ∷ 37 ∷ []) request))
    (is "Nothing is chosen: no model is eligible, with reason 103."
    ++ is "Model 1 is rejected: its quality of 9000 basis points is below the 9500 required."
    ++ no_price
    ++ is "Quality alone: 9000 basis points today; it must rise to at least 9500.")
    refl
    ∷ says "a region that none has" (asked (with 62 (2 ∷ []) request))
    (is "Nothing is chosen: no model is eligible, with reason 107."
    ++ is "Model 1 is rejected: its regions, mask 1, have none of those required, mask 2."
    ++ no_price
    ++ no_other)
    refl
    ∷ says "a budget of 299" (asked (with 28 (43 ∷ 1 ∷ []) request))
    (is "Nothing is chosen: no model is eligible, with reason 108."
    ++ is "Model 1 is over budget: it costs 1800 microunits, 1501 more than the budget of 299."
    ++ is "Price alone: it must fall by 83.4 percent or more; exactly, by 83.4000 percent, to 16.6000 percent of today's, where the request costs 299 microunits.")
    refl
    ∷ says "a value of -1" (asked valueless)
    (is "Nothing is chosen: no model is eligible, with reason 109."
    ++ is "Model 1 is rejected: its utility of -2800 microunits is not above 0."
    ++ no_price
    ++ no_other)
    refl
    ∷ says "model 9 requested" (ask_words 2 (input_of_bank bank (with 8 (9 ∷ []) request)))
    (second
    ++ is "The requested model 9 is not listed."
    ++ is "Model 2 is chosen already."
    ++ is "Price alone: not searched, since the model is chosen already.")
    refl
    ∷ says "not listed: 5" (ask_words 3 input) (is "refused 5" ++ is "Model 3 is not listed.") refl
    ∷ says "a provider of 64, which one" (ask_words 1 (input_of_bank (unknown ++ model_two) request))
    (is "refused 13" ++ is "Model 1 has provider 64; providers go from 0 to 63.")
    refl
    ∷ says "the request's fault, after validation" (asked risky)
    (is "refused 3" ++ is "The request's risk is 10001 basis points; at most 10000 are allowed.")
    refl
    ∷ []

pub standing_rows : List Row
unfolding rules
standing_rows =
    says "latency" (of_model 3 (gate_words 3 100 50)) (is "Model 3 is rejected: its latency of 100 ms is above the limit of 50 ms.") refl
    ∷ says "capabilities" (of_model 3 (gate_words 4 1 3)) (is "Model 3 is rejected: its capabilities, mask 1, lack some of those required, mask 3.") refl
    ∷ says "an unknown provider" (of_model 3 (gate_words 5 64 63)) (is "Model 3 is rejected: its provider 64 is above 63.") refl
    ∷ says "a provider that is barred" (of_model 3 (gate_words 6 3 5))
    (is "Model 3 is rejected: its provider 3 is not among those allowed, mask 5.")
    refl
    ∷ says "the ceiling" (of_model 3 (gate_words 8 2000 1000))
    (is "Model 3 is rejected: the request's risk of 2000 basis points is above its ceiling of 1000.")
    refl
    ∷ says "outranked by the utility, whatever it costs" (key_words (pos 1) (pos 2) 1 2 2 1) (text "its utility of 1 microunits is below 2.") refl
    ∷ says "by the cost" (key_words (pos 2) (pos 2) 400 300 9 1) (text "at the same utility, its cost of 400 microunits is above 300.") refl
    ∷ says "by the quality" (key_words (pos 2) (pos 2) 300 300 8000 9000)
    (text "at the same utility and cost, its quality of 8000 basis points is below 9000.")
    refl
    ∷ says "by the id" (key_words (pos 2) (pos 2) 300 300 9000 9000) (text "at the same utility, cost and quality, the lower id goes first.") refl
    ∷ []

pub lever_rows : List Row
unfolding rules
lever_rows =
    says "three levers, and the price left out"
    (levers_words (lever 1 8000 8500 none ∷ lever 2 90 60 none ∷ lever 3 1000000 999995 (some 31) ∷ lever 4 100 1000 none ∷ []))
    (is "Quality alone: 8000 basis points today; it must rise to at least 8500."
    ++ is "Latency alone: 90 ms today; it must fall to at most 60 ms."
    ++ is "Risk ceiling alone: 100 basis points today; it must rise to at least 1000.")
    refl
    ∷ says "the smallest fall" (fall_words (lever 3 1000000 999999 (some 31)))
    (is "Price alone: it must fall by 0.1 percent or more; exactly, by 0.0001 percent, to 99.9999 percent of today's, where the request costs 31 microunits.")
    refl
    ∷ says "the largest" (fall_words (lever 3 1000000 0 (some 0)))
    (is "Price alone: it must fall by 100.0 percent or more; exactly, by 100.0000 percent, to 0.0000 percent of today's, where the request costs 0 microunits.")
    refl
    ∷ says "whole tenths stay" (percent_up 556000) (text "55.6 percent") refl
    ∷ says "and one millionth more is a tenth more" (percent_up 556001) (text "55.7 percent") refl
    ∷ []

-- ---- refusals

pub fault_rows : List Row
unfolding rules
fault_rows =
    says "3, confidence" (fault_words 1 (input_fault 2 10001 0)) (is "The request's confidence is 10001 basis points; at most 10000 are allowed.") refl
    ∷ says "3, minimum quality" (fault_words 1 (input_fault 3 20000 0))
    (is "The request's minimum quality is 20000 basis points; at most 10000 are allowed.")
    refl
    ∷ says "10, hard risk limit" (fault_words 1 (policy_fault 4 10001)) (is "The policy's hard risk limit is 10001 basis points; at most 10000 are allowed.") refl
    ∷ says "10, minimum confidence" (fault_words 1 (policy_fault 5 10001))
    (is "The policy's minimum confidence is 10001 basis points; at most 10000 are allowed.")
    refl
    ∷ says "10, multiplier" (fault_words 1 (policy_fault 6 50001)) (is "The policy's risk multiplier is 50001 basis points; at most 50000 are allowed.") refl
    ∷ says "11" (fault_words 1 (fault 11)) (is "No model is listed.") refl
    ∷ says "12" (fault_words 1 (model_fault 12 0 7 0)) (is "Model 7 is listed more than once.") refl
    ∷ says "14, quality" (fault_words 1 (model_fault 14 7 7 12000)) (is "Model 7 has a quality of 12000 basis points; at most 10000 are allowed.") refl
    ∷ says "14, ceiling" (fault_words 1 (model_fault 14 8 7 12000)) (is "Model 7 has a risk ceiling of 12000 basis points; at most 10000 are allowed.") refl
    ∷ says "15" (fault_words 1 (fault 15)) (is "Every model is switched off.") refl
    ∷ says "19" (fault_words 1 (fault 19)) (is "More than 900 models are listed.") refl
    ∷ says "20" (fault_words 1 (fault 20)) (is "The input ends within a field.") refl
    ∷ says "21" (fault_words 1 (fault 21)) (is "A field of the input is missing, out of its order, or one too many.") refl
    ∷ says "22" (fault_words 1 (fault 22)) (is "A field of the input has a length that its tag does not have.") refl
    ∷ says "23" (fault_words 1 (fault 23)) (is "The input's rounding, under tag 4, is not 1.") refl
    ∷ says "25" (fault_words 1 (fault 25)) (is "The input's latency allowance, under tag 5, is 0.") refl
    ∷ says "a number that no input is refused with has no sentence" (fault_words 1 (fault 1)) [] refl
    ∷ []
