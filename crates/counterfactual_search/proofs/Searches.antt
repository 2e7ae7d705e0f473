-- A search after its far end, and how few passes a search takes, over the side and over any test p; and a search of what is held, which is one
-- by the rules. Assumes nothing.
use Rattle.rules.proofs.Kit.{ℕ, ◌^◌, ◌≤◌, ◌<◌, arith, ◌≡◌, ap, ◌∙◌, Bool, List}
use Rattle.rules.specs.{Halving.Side, Halving.search_of, Halving.search_after_far_end, Halving.passes_of, Levers.wins, declared.boundary.Bound.Bound}
use Rattle.rules.proofs.Halvings.{few, far-few as few-after}
use Rattle.counterfactual_pass.specs.{Asked.question_in, Asked.Stands, declared.pass.Asked.Asked, declared.held.Held.Held}
use Rattle.counterfactual_search.specs.Search.{wins_on}
use Rattle.pricing.specs.Pricing.{pricing_of}
use Rattle.counterfactual_pass.proofs.Passes.{as_asked, same_test}

-- AT MOST 65 PASSES over 64 bits, and 66 where the far end is tried first
module _ (s : Side) (p : ℕ → Bool) (low high : ℕ) where
  pub search-few : {r : Bound} → r ≡ search_of s p low high → high < 2 ^ 64 → passes_of r ≤ 65
  search-few {r} e h = omega (arith, few s p 64 low high e (omega arith))

  pub far-few : {r : Bound} → r ≡ search_after_far_end s p low high → high < 2 ^ 64 → passes_of r ≤ 66
  far-few {r} e h = few-after s p 64 low high e (omega arith)

-- WHAT A SEARCH FINDS OF WHAT IS ASKED is what the rules find over the bank
module _ (k : Asked) (bank : List ℕ) (stands : Stands k bank) (held : Held) (new : (held.asked ≡ k) × (held.pricing ≡ pricing_of k.policy k.input)) where
  over_bank : (lever : ℕ) → wins_on held lever ≡ wins (question_in k bank) lever
  over_bank lever = (λ i v. as_asked k new lever v i) ∙ same_test k bank stands lever

  pub searched-so : (s : Side) (lever low high : ℕ) {r : Bound} → r ≡ search_of s (wins_on held lever) low high
      → r ≡ search_of s (wins (question_in k bank) lever) low high
  searched-so s lever low high e = e ∙ ap (λ t. search_of s t low high) (over_bank lever)

  pub after-so : (s : Side) (lever low high : ℕ) {r : Bound} → r ≡ search_after_far_end s (wins_on held lever) low high
      → r ≡ search_after_far_end s (wins (question_in k bank) lever) low high
  after-so s lever low high e = e ∙ ap (λ t. search_after_far_end s t low high) (over_bank lever)
