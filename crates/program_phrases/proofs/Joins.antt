-- A share in percent as it is put together, piece by piece. Assumes nothing.
use Rattle.rules.proofs.Kit.{ℕ, ◌+◌, ◌/◌, ◌%◌, ◌≡◌, sym, ap, ◌∙◌, List, [], ◌∷◌, ◌++◌, append_assoc}
use Rattle.rules.specs.{Text.text, Text.decimal, Phrases.digit, Phrases.tenths_up, Phrases.percent, Phrases.percent_up}

-- A SHARE IN PERCENT: its digits after the point stand in one piece
pub percent_joins : {a b c d : ℕ} (n : ℕ) → a ≡ 48 + n / 1000 % 10 → b ≡ 48 + n / 100 % 10 → c ≡ 48 + n / 10 % 10 → d ≡ 48 + n % 10
    → decimal (n / 10000) ++ (46 ∷ a ∷ b ∷ c ∷ d ∷ []) ++ text " percent" ≡ percent n
unfolding percent digit text
percent_joins {a} {b} {c} {d} n ea eb ec ed =
    let whole = decimal (n / 10000) in
    ap (λ (s : List ℕ). s ++ text " percent")
    (sym
    (append_assoc (whole ++ (46 ∷ []) ++ (a ∷ []) ++ (b ∷ [])) (c ∷ []) (d ∷ [])
    ∙ append_assoc (whole ++ (46 ∷ []) ++ (a ∷ [])) (b ∷ []) (c ∷ d ∷ [])
    ∙ append_assoc (whole ++ (46 ∷ [])) (a ∷ []) (b ∷ c ∷ d ∷ [])
    ∙ append_assoc whole (46 ∷ []) (a ∷ b ∷ c ∷ d ∷ [])))
    ∙ (λ i. whole ++ (46 ∷ []) ++ (ea i ∷ []) ++ (eb i ∷ []) ++ (ec i ∷ []) ++ (ed i ∷ []) ++ text " percent")

-- THE SAME WITH ONE DIGIT, rounded up
pub percent_up_joins : {t d : ℕ} (n : ℕ) → t ≡ tenths_up n → d ≡ 48 + t % 10 → decimal (t / 10) ++ (46 ∷ d ∷ []) ++ text " percent" ≡ percent_up n
unfolding percent_up digit text
percent_up_joins {t} {d} n et ed =
    ap (λ (s : List ℕ). s ++ text " percent") (sym (append_assoc (decimal (t / 10)) (46 ∷ []) (d ∷ [])))
    ∙ (λ i. decimal (t / 10) ++ (46 ∷ []) ++ (ed i ∷ []) ++ text " percent")
    ∙ (λ i. decimal (et i / 10) ++ (46 ∷ []) ++ ((48 + et i % 10) ∷ []) ++ text " percent")
