-- Lines of levers as they are put together, piece by piece. Assumes nothing.
use Rattle.rules.proofs.Kit.{ℕ, zero, suc, ◌+◌, ◌≤◌, ◌<◌, ◌≡◌, refl, sym, ap, ◌∙◌, List, [], ◌∷◌, ◌++◌, map, append-nil, append_assoc, add-one, arith}
use Rattle.rules.proofs.Kit.{length, take, get_or, take_all, min}
use Rattle.std.proofs.lemmas.List.{take_min, take-map}
use Rattle.rules.specs.{Text.text, Text.decimal, Text.spaced, Text.line, Numbers.Entry, Numbers.told_entry, Printed.cost_text, Printed.lever_line}
use Rattle.rules.specs.{Printed.lever_lines, declared.boundary.Requirement.Requirement}
use Rattle.text.proofs.Words.{words_after}
use Rattle.program_lever_lines.specs.Pieces.{cost_word}

-- A LEVER'S LINE
pub lever_joins : (e : Entry) → text "lever" ++ spaced (map decimal (e.lever ∷ e.current ∷ e.boundary ∷ [])) ++ cost_word e.cost ++ (10 ∷ []) ≡ lever_line e
unfolding lever_line line
lever_joins e =
    ap (λ (s : List ℕ). s ++ (10 ∷ [])) (words_after (text "lever") (map decimal (e.lever ∷ e.current ∷ e.boundary ∷ [])) (cost_text e.cost ∷ []))

-- ---- levers, one after the other

pub levers_none : [] ≡ lever_lines []
unfolding lever_lines
levers_none = refl

more : (ls : List Requirement) (d : Requirement) (i : ℕ) → i < length ls
    → lever_lines (map told_entry (take i ls)) ++ lever_line (told_entry (get_or ls i d)) ≡ lever_lines (map told_entry (take (suc i) ls))
unfolding lever_lines
more [] d i h = absurd (omega arith)
more (l ∷ ls) d zero h = sym (append-nil _)
more (l ∷ ls) d (suc i) h =
    append_assoc (lever_line (told_entry l)) (lever_lines (map told_entry (take i ls))) _
    ∙ ap (λ (s : List ℕ). lever_line (told_entry l) ++ s) (more ls d i (omega arith))

-- ONE LEVER MORE
pub levers_more : (ls : List Requirement) (d : Requirement) (i : ℕ) → i < length ls
    → lever_lines (map told_entry (take i ls)) ++ lever_line (told_entry (get_or ls i d)) ≡ lever_lines (map told_entry (take (i + 1) ls))
levers_more ls d i h = rw (add-one i) (more ls d i h)

-- THE LEVERS THAT ARE SHOWN: a count beyond the rooms means all of them
pub levers_shown : (ls : List Requirement) (n m i : ℕ) → length ls ≡ 4 → m ≡ min n 4 → length (take m ls) ≤ i
    → map told_entry (take i (take m ls)) ≡ take n (map told_entry ls)
levers_shown ls n m i four e h =
    let upto : m ≡ min n (length ls) = rw four e in
    ap (map told_entry) (take_all i (take m ls) h ∙ ap (λ k. take k ls) upto ∙ take_min n ls) ∙ sym (take-map told_entry n ls)
