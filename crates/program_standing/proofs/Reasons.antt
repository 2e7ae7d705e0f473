-- Why a model was not chosen: sentences as they are put together, and which one a gate or a key gets. Assumes nothing.
use Rattle.rules.proofs.Kit.{ℕ, ◌-◌, ◌<◌, ◌≤◌, ◌≡◌, sym, ap, ap₂, ◌∙◌, true, false, List, [], ◌∷◌, ◌++◌, append-nil, lt-ltb, le-ltb, ne_eqb, ℤ, lt_z}
use Rattle.rules.specs.{Choice.below, Choice.equal, Text.text, Text.decimal, Phrases.sentence, Phrases.about, Phrases.comparing}
use Rattle.rules.specs.{NotChosen.of_model, NotChosen.later_gate_words, NotChosen.budget_words, NotChosen.key_words}
use Rattle.program_standing.specs.Parts.{lower_utility_words}

-- ---- pieces

-- WORDS ABOUT TWO NUMBERS take more words at their end
comparing_more : (before : List ℕ) (m : ℕ) (middle : List ℕ) (n : ℕ) (more : List ℕ)
    → comparing before m middle n [] ++ more ≡ comparing before m middle n more
unfolding comparing
comparing_more before m middle n more = ap (λ (s : List ℕ). s ++ more) (append-nil (before ++ decimal m ++ middle ++ decimal n))

-- OVER BUDGET
pub budget_joins : {n : ℕ} (cost budget : ℕ) → n ≡ cost - budget
    → comparing (text " is over budget: it costs ") cost (text " microunits, ") n [] ++ about (text " more than the budget of ") budget (text ".")
    ≡ budget_words cost budget
unfolding budget_words
budget_joins cost budget e = rw e (comparing_more _ cost _ (cost - budget) _)

-- A SENTENCE ABOUT A MODEL
pub model_joins : (id : ℕ) (words : List ℕ) → about (text "Model ") id [] ++ words ++ (10 ∷ []) ≡ of_model id words
unfolding of_model sentence about
model_joins id words = ap (λ (s : List ℕ). s ++ words ++ (10 ∷ [])) (append-nil (text "Model " ++ decimal id))

-- ---- gates

module _ (gate m l : ℕ) where
  -- NO GATE FROM 4 TO 7: the risk
  pub gate_eight : (gate ≡ 4 → ⊥) → (gate ≡ 5 → ⊥) → (gate ≡ 6 → ⊥) → (gate ≡ 7 → ⊥)
      → comparing (text " is rejected: the request's risk of ") m (text " basis points is above its ceiling of ") l (text ".") ≡ later_gate_words gate m l
  unfolding later_gate_words equal
  gate_eight four five six seven = rw (ne_eqb gate 4 four, ne_eqb gate 5 five, ne_eqb gate 6 six, ne_eqb gate 7 seven)

-- ---- keys

module _ {u b : ℤ} (utility best : ℤ) (cost lowest quality highest : ℕ) (e : u ≡ utility) (f : b ≡ best) where
  -- THE UTILITY is lower
  pub key_utility : lt_z u b ≡ true → lower_utility_words u b ≡ key_words utility best cost lowest quality highest
  unfolding key_words lower_utility_words
  key_utility h = rw (sym (ap₂ lt_z e f) ∙ h) (ap₂ lower_utility_words e f)

  module _ (level : lt_z u b ≡ false) where
    -- else THE COST is higher
    pub key_cost : lowest < cost
        → comparing (text "at the same utility, its cost of ") cost (text " microunits is above ") lowest (text ".")
        ≡ key_words utility best cost lowest quality highest
    unfolding key_words below
    key_cost h = rw (sym (ap₂ lt_z e f) ∙ level, lt-ltb lowest cost h)

    module _ (cheap : cost ≤ lowest) where
      -- else THE QUALITY is lower
      pub key_quality : quality < highest
          → comparing (text "at the same utility and cost, its quality of ") quality (text " basis points is below ") highest (text ".")
          ≡ key_words utility best cost lowest quality highest
      unfolding key_words below
      key_quality h = rw (sym (ap₂ lt_z e f) ∙ level, le-ltb lowest cost cheap, lt-ltb quality highest h)

      -- else THE ID is higher
      pub key_id : highest ≤ quality
          → text "at the same utility, cost and quality, the lower id goes first." ≡ key_words utility best cost lowest quality highest
      unfolding key_words below
      key_id h = rw (sym (ap₂ lt_z e f) ∙ level, le-ltb lowest cost cheap, le-ltb quality highest h)
