-- Words one after the other; and texts, which are the byte strings of code. Assumes nothing.
use Rattle.rules.proofs.Kit.{ℕ, ◌+◌, ◌<◌, ◌≡◌, refl, sym, ap, ◌∙◌, List, [], ◌∷◌, ◌++◌, map, append-nil, append_assoc, add-one, length, take, get_or, take-suc}
use Rattle.rules.specs.Text.{text, decimal, spaced}

-- A TEXT IS A BYTE STRING OF CODE: it computes to its bytes, so that `b"-"` is `text "-"`
pub minus_text : 45 ∷ [] ≡ text "-"
unfolding text
minus_text = refl

-- NO WORD IS NO TEXT, and a space before a word is one word
pub spaced_none : [] ≡ spaced []
unfolding spaced
spaced_none = refl

pub spaced_one : (w : List ℕ) → (32 ∷ []) ++ w ≡ spaced (w ∷ [])
unfolding spaced text
spaced_one w = sym (append-nil (32 ∷ w))

-- WORDS AND MORE WORDS are the words of both
pub spaced_join : (ws vs : List (List ℕ)) → spaced ws ++ spaced vs ≡ spaced (ws ++ vs)
unfolding spaced
spaced_join [] vs = refl
spaced_join (w ∷ ws) vs = append_assoc (text " " ++ w) (spaced ws) (spaced vs) ∙ ap (λ (s : List ℕ). text " " ++ w ++ s) (spaced_join ws vs)

-- MORE WORDS after a name with its words
pub words_after : (name : List ℕ) (ws vs : List (List ℕ)) → name ++ spaced ws ++ spaced vs ≡ name ++ spaced (ws ++ vs)
words_after name ws vs = append_assoc name (spaced ws) (spaced vs) ∙ ap (λ (s : List ℕ). name ++ s) (spaced_join ws vs)

map_join : (ns ms : List ℕ) → map decimal ns ++ map decimal ms ≡ map decimal (ns ++ ms)
map_join [] ms = refl
map_join (n ∷ ns) ms = ap (λ (ws : List (List ℕ)). decimal n ∷ ws) (map_join ns ms)

-- ONE NUMBER MORE
pub words_more : (ns : List ℕ) (i : ℕ) → i < length ns
    → spaced (map decimal (take i ns)) ++ spaced (decimal (get_or ns i 0) ∷ []) ≡ spaced (map decimal (take (i + 1) ns))
words_more ns i h =
    spaced_join (map decimal (take i ns)) (decimal (get_or ns i 0) ∷ [])
    ∙ ap spaced (map_join (take i ns) (get_or ns i 0 ∷ []))
    ∙ rw (add-one i, take-suc ns i 0)
