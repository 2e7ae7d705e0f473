-- The question from the desk answered in plain English: who was chosen, why the model asked about was not, and what would make it the choice.
use Rattle.rules.specs.Refused.{unless}
use Rattle.std.specs.Prelude.{ℕ, ◌-◌, Bool, List, [], ◌∷◌, ◌++◌, eqb}
use Rattle.std.proofs.Math.Option.{Option, none, some}
use Rattle.rules.specs.Limits.{ppm}
use Rattle.rules.specs.Choice.{equal, pick}
use Rattle.rules.specs.Records.{Listed}
use Rattle.rules.specs.Numbers.{Decision, is_rejection, Entry, Boundary}
use Rattle.rules.specs.Listing.{first_listed}
use Rattle.rules.specs.Verdict.{verdict_of}
use Rattle.rules.specs.Levers.{selects}
use Rattle.rules.specs.Stored.{stored_policy}
use Rattle.rules.specs.Text.{text, signed_decimal}
use Rattle.rules.specs.Printed.{program_models, program_request, ask_faults, asked_of, entries_of}
use Rattle.rules.specs.Phrases.{sentence, about, comparing, percent, percent_up}
use Rattle.rules.specs.NotChosen.{of_model, quality_of, standing_words}
use Rattle.rules.specs.FaultWords.{refused_words}
use Rattle.rules.specs.declared.records.KernelModel.{KernelModel}
use Rattle.rules.specs.declared.records.KernelInput.{KernelInput}
use Rattle.rules.specs.declared.records.PolicySnapshot.{PolicySnapshot}

-- ---- the choice

-- Q1, D26. Who was chosen, at what cost and utility
unfoldable pub chosen_words : Decision → List ℕ
chosen_words d =
    sentence (comparing (text "Chosen: model ") d.model (text ", at a cost of ") d.cost (text " microunits, with a utility of ")
    ++ signed_decimal d.utility ++ text " microunits.")

-- Q1, D1, D2, D24. Or why nothing was: the request is stopped, with both numbers, or no model is eligible
unfoldable pub risk_words : ℕ → ℕ → List ℕ
risk_words risk limit =
    sentence (comparing (text "Nothing is chosen: the request is stopped, since its risk of ") risk
    (text " basis points is not below the policy's hard limit of ") limit (text "."))

unfoldable pub confidence_words : ℕ → ℕ → List ℕ
confidence_words confidence minimum =
    sentence (comparing (text "Nothing is chosen: the request is stopped, since its confidence of ") confidence
    (text " basis points is below the policy's minimum of ") minimum (text "."))

unfoldable pub rejection_words : PolicySnapshot → KernelInput → ℕ → List ℕ
rejection_words p q reason =
    equal reason 100 (risk_words q.risk_bps p.hard_risk_limit_bps)
    (equal reason 101 (confidence_words q.confidence_bps p.minimum_confidence_bps)
    (sentence (about (text "Nothing is chosen: no model is eligible, with reason ") reason (text "."))))

unfoldable pub choice_words : PolicySnapshot → KernelInput → Decision → List ℕ
choice_words p q d = pick (is_rejection d) (λ _. rejection_words p q d.reason) (λ _. chosen_words d)

-- Q2. The requested model, where it isn't listed
abbrev pub requested_words : ℕ → Option Listed → List ℕ
requested_words id none = sentence (about (text "The requested model ") id (text " is not listed."))
requested_words id (some l) = []

-- ---- levers

-- Q5, W9. The price must fall: by how much, rounded up, then exactly, to what, and what the request costs there
unfoldable pub cost_words : Option ℕ → List ℕ
cost_words none = text "."
cost_words (some c) = about (text ", where the request costs ") c (text " microunits.")

unfoldable pub fall_words : Entry → List ℕ
fall_words e =
    sentence (text "Price alone: it must fall by " ++ percent_up (ppm - e.boundary) ++ text " or more; exactly, by " ++ percent (ppm - e.boundary)
    ++ text ", to " ++ percent e.boundary ++ text " of today's" ++ cost_words e.cost)

-- Q5, Q6, W6. The price lever among those that win, or that it isn't there: the search went down to 0
unfoldable pub price_words : List Entry → List ℕ
price_words [] = sentence (text "Price alone: no price, not even 0, would make it the choice.")
price_words (e ∷ es) = equal e.lever 3 (fall_words e) (price_words es)

-- Q6. Why the price wasn't searched
unfoldable pub unsearched_words : List ℕ → List ℕ
unsearched_words why = sentence (text "Price alone: not searched, since " ++ why ++ text ".")

-- Q7, W4, W7. Quality and ceiling must rise, each in basis points
unfoldable pub rise_words : List ℕ → Entry → List ℕ
rise_words name e = sentence (comparing name e.current (text " basis points today; it must rise to at least ") e.boundary (text "."))

-- Q7, W5. Latency must fall
unfoldable pub latency_words : Entry → List ℕ
latency_words e =
    sentence (comparing (text "Latency alone: ") e.current (text " ms today; it must fall to at most ") e.boundary (text " ms."))

-- Q7. A lever other than the price
unfoldable pub lever_words : Entry → List ℕ
lever_words e =
    equal e.lever 1 (rise_words (text "Quality alone: ") e)
    (equal e.lever 2 (latency_words e)
    (equal e.lever 3 []
    (equal e.lever 4 (rise_words (text "Risk ceiling alone: ") e) (sentence (text "Switched on, it would be chosen.")))))

unfoldable pub levers_words : List Entry → List ℕ
levers_words [] = []
levers_words (e ∷ es) = lever_words e ++ levers_words es

-- Q6, Q7, W3. A model that is off: its price isn't searched, only whether it would be chosen switched on
unfoldable pub off_words : Boundary → List ℕ
off_words b =
    unsearched_words (text "the model is switched off")
    ++ pick (eqb b.count 0) (λ _. sentence (text "Switched on, it would still not be chosen.")) (λ _. levers_words (entries_of b))

-- Q7. One that is on: its price, then each other lever that wins
unfoldable pub on_words : Boundary → List ℕ
on_words b =
    price_words (entries_of b)
    ++ pick (eqb b.count 0) (λ _. sentence (text "Nor would its quality, latency or risk ceiling alone.")) (λ _. levers_words (entries_of b))

unfoldable pub searched_words : Bool → Boundary → List ℕ
searched_words off b = pick off (λ _. off_words b) (λ _. on_words b)

-- ---- the answer

-- Q3, W1. The request is stopped; the model is chosen already
unfoldable pub stopped_words : List ℕ
stopped_words = sentence (text "No change to a model would help.") ++ unsearched_words (text "the request is stopped")

unfoldable pub already_words : ℕ → List ℕ
already_words id = of_model id (text " is chosen already.") ++ unsearched_words (text "the model is chosen already")

-- Q9. What became of the model asked about, and what would make it the choice
unfoldable pub model_words : PolicySnapshot → KernelInput → List Listed → ℕ → KernelModel → Boundary → List ℕ
model_words p q ls id m b =
    pick b.blocked (λ _. stopped_words) (λ _. pick (selects id b.decision) (λ _. already_words id)
    (λ _. standing_words id (verdict_of p q m) m.quality_bps b.decision (quality_of (first_listed b.decision.model ls))
    ++ searched_words (eqb m.enabled 0) b))

abbrev pub listed_words : PolicySnapshot → KernelInput → List Listed → ℕ → Option Listed → Boundary → List ℕ
listed_words p q ls id none b = []
listed_words p q ls id (some l) b = model_words p q ls id l.model b

unfoldable pub words_report : PolicySnapshot → KernelInput → List Listed → ℕ → Boundary → List ℕ
words_report p q ls id b =
    choice_words p q b.decision ++ requested_words q.requested_model_id (first_listed q.requested_model_id ls)
    ++ listed_words p q ls id (first_listed id ls) b

unfoldable pub ask_words : ℕ → List ℕ → List ℕ
ask_words id input =
    unless (ask_faults id input) (refused_words id) (words_report (stored_policy input) (program_request input) (program_models input) id (asked_of id input))
