-- The decision's line as it is put together, piece by piece. Assumes nothing.
use Rattle.rules.proofs.Kit.{ℕ, ◌≡◌, ap, ◌∙◌, List, [], ◌∷◌, ◌++◌, map, ℤ}
use Rattle.rules.specs.{Text.text, Text.decimal, Text.signed_decimal, Text.spaced, Text.line, Numbers.Decision, Printed.decision_line}
use Rattle.text.proofs.Words.{words_after}
use Rattle.program_lines.specs.Pieces.{decision_start}

-- THE DECISION'S LINE, up to its utility and then whole
pub start_joins : {a r : ℕ} {u : ℤ} (d : Decision) → a ≡ d.action → r ≡ d.reason → u ≡ d.utility
    → text "decision" ++ spaced (map decimal (d.sequence ∷ a ∷ r ∷ d.model ∷ d.place ∷ d.cost ∷ [])) ++ spaced (signed_decimal u ∷ []) ≡ decision_start d
unfolding decision_start
start_joins d e f g =
    rw (e, f, g) (words_after (text "decision") (map decimal (d.sequence ∷ d.action ∷ d.reason ∷ d.model ∷ d.place ∷ d.cost ∷ []))
    (signed_decimal d.utility ∷ []))

pub decision_joins : {u : ℤ} (d : Decision) → u ≡ d.counterfactual_utility
    → decision_start d ++ spaced (decimal d.counterfactual ∷ []) ++ spaced (signed_decimal u ∷ [])
    ++ spaced (map decimal (d.evaluated ∷ d.eligible ∷ d.policy_epoch ∷ d.catalog_epoch ∷ [])) ++ (10 ∷ [])
    ≡ decision_line d
unfolding decision_start decision_line line
decision_joins d e =
    let six = decimal d.sequence ∷ decimal d.action ∷ decimal d.reason ∷ decimal d.model ∷ decimal d.place ∷ decimal d.cost
    ∷ signed_decimal d.utility ∷ [] in
    let one = decimal d.counterfactual ∷ [] in
    let two = signed_decimal d.counterfactual_utility ∷ [] in
    let last = map decimal (d.evaluated ∷ d.eligible ∷ d.policy_epoch ∷ d.catalog_epoch ∷ []) in
    rw e
    (ap (λ (s : List ℕ). s ++ (10 ∷ []))
    (ap (λ (s : List ℕ). s ++ spaced two ++ spaced last) (words_after (text "decision") six one)
    ∙ ap (λ (s : List ℕ). s ++ spaced last) (words_after (text "decision") (six ++ one) two)
    ∙ words_after (text "decision") (six ++ one ++ two) last))
