-- The question from the desk, in words: why a model was not chosen.
use Rattle.std.specs.Prelude.{ℕ, ◌-◌, List, ◌++◌, ℤ}
use Rattle.std.proofs.Math.Option.{Option, none, some}
use Rattle.std.specs.Int.Signed.{lt_z}
use Rattle.rules.specs.Choice.{below, equal, pick}
use Rattle.rules.specs.Records.{Listed}
use Rattle.rules.specs.Numbers.{Decision, Verdict}
use Rattle.rules.specs.Text.{text, signed_decimal}
use Rattle.rules.specs.Phrases.{sentence, about, comparing}

-- Q4. A sentence about a model
unfoldable pub of_model : ℕ → List ℕ → List ℕ
of_model id words = sentence (about (text "Model ") id words)

-- Q4, D4 to D12. The gate that it fails, with what was measured and the limit: gates 4 to 8, and all of them
unfoldable pub later_gate_words : ℕ → ℕ → ℕ → List ℕ
later_gate_words gate m l =
    equal gate 4 (comparing (text " is rejected: its capabilities, mask ") m (text ", lack some of those required, mask ") l (text "."))
    (equal gate 5 (comparing (text " is rejected: its provider ") m (text " is above ") l (text "."))
    (equal gate 6 (comparing (text " is rejected: its provider ") m (text " is not among those allowed, mask ") l (text "."))
    (equal gate 7 (comparing (text " is rejected: its regions, mask ") m (text ", have none of those required, mask ") l (text "."))
    (comparing (text " is rejected: the request's risk of ") m (text " basis points is above its ceiling of ") l (text ".")))))

unfoldable pub gate_words : ℕ → ℕ → ℕ → List ℕ
gate_words gate m l =
    equal gate 1 (text " is switched off.")
    (equal gate 2 (comparing (text " is rejected: its quality of ") m (text " basis points is below the ") l (text " required."))
    (equal gate 3 (comparing (text " is rejected: its latency of ") m (text " ms is above the limit of ") l (text " ms."))
    (later_gate_words gate m l)))

-- Q4, D14. Over budget, and by how much
unfoldable pub budget_words : ℕ → ℕ → List ℕ
budget_words cost budget =
    comparing (text " is over budget: it costs ") cost (text " microunits, ") (cost - budget) (about (text " more than the budget of ") budget (text "."))

-- Q4, D19. A utility that isn't positive
unfoldable pub worth_words : ℤ → List ℕ
worth_words utility = text " is rejected: its utility of " ++ signed_decimal utility ++ text " microunits is not above 0."

-- Q4, D22. Eligible, but another was chosen: by the first key in which that one is ahead. Their ids differ, so the last key that is looked at is the id
unfoldable pub key_words : ℤ → ℤ → ℕ → ℕ → ℕ → ℕ → List ℕ
key_words utility best cost lowest quality highest =
    pick (lt_z utility best) (λ _. text "its utility of " ++ signed_decimal utility ++ text " microunits is below " ++ signed_decimal best ++ text ".")
    (λ _. below lowest cost (comparing (text "at the same utility, its cost of ") cost (text " microunits is above ") lowest (text "."))
    (below quality highest
    (comparing (text "at the same utility and cost, its quality of ") quality (text " basis points is below ") highest (text "."))
    (text "at the same utility, cost and quality, the lower id goes first.")))

abbrev pub quality_of : Option Listed → ℕ
quality_of none = 0
quality_of (some l) = l.model.quality_bps

-- what it is told, its quality, the decision, and the quality of the chosen model
unfoldable pub outranked_words : Verdict → ℕ → Decision → ℕ → List ℕ
outranked_words v quality d highest =
    about (text " is outranked by model ") d.model (text ": ")
    ++ key_words v.utility d.utility v.cost d.cost quality highest

-- Q4, D3, D14, D19, D22. Why a model that was not chosen was not, and the sentence that says so
unfoldable pub reason_words : Verdict → ℕ → Decision → ℕ → List ℕ
reason_words v quality d highest =
    equal v.kind 1 (gate_words v.gate v.first v.second)
    (equal v.kind 2 (budget_words v.first v.second)
    (equal v.kind 3 (worth_words v.utility) (outranked_words v quality d highest)))

unfoldable pub standing_words : ℕ → Verdict → ℕ → Decision → ℕ → List ℕ
standing_words id v quality d highest = of_model id (reason_words v quality d highest)
