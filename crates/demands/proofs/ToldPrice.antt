-- What the desk is told of a price is true, and enough: a fall by the percentage that is told makes the model the choice, and where it is told that no
-- price would do, none does. For any answer that is exact. Assumes nothing.
use Rattle.rules.proofs.Kit.{ℕ, ◌-◌, ◌*◌, ◌≤◌, ◌≡◌, refl, ap, Bool, true, false, cond, List, [], ◌∷◌, ◌++◌, eqb, ltb, length, arith}
use Rattle.rules.specs.{Limits.ppm, Choice.equal, Numbers.Entry, Numbers.Boundary, Levers.Question, Levers.wins, Phrases.tenths_up}
use Rattle.rules.specs.{Records.Listed, Price.cost_under, Decide.request_faults, Validate.catalog_faults, Stored.stored_policy, Printed.entries_of}
use Rattle.rules.specs.{Limits.max_program_models, Records.records_in, Refused.refuse_if, Refused.fault, Listing.first_listed, Stored.form_faults}
use Rattle.rules.specs.{Stored.stored_bank, Printed.program_tags, Printed.unlisted_faults}
use Rattle.rules.specs.{Printed.program_models, Printed.program_request, Printed.program_faults, Printed.ask_faults, Printed.asked_of}
use Rattle.rules.specs.{Words.fall_words, Words.price_words}
use Rattle.rules.proofs.Faults.{none_first, none_after}
use Rattle.demands.specs.{Demand3.of_lever, Demand3.entries_for, Demand3.price_entry, Demand3.win_price, Demand3.WinExact, Exact.In}
use Rattle.demands.specs.{Exact.Nowhere, Demand3.win_quality, Demand3.win_latency, Demand3.win_ceiling, Demand3.question, Demand3.Unselected}
use Rattle.demands.specs.{Demand3.SwitchedOn}
use Rattle.demands.proofs.{Rounding.cost_rises, Winning.win-exact, Validated.catalog_unique}

-- ROUNDED UP, a fall is no less than it was
pub tenths_suffice : (n : ℕ) → n ≤ 1000 * tenths_up n
unfolding tenths_up
tenths_suffice n = omega arith

-- The scale of today's prices after the fall that is told
abbrev pub after_fall : ℕ → ℕ
after_fall b = ppm - 1000 * tenths_up (ppm - b)

-- THE SENTENCE is that of the one entry of the price, or that there is none
abbrev first_or : Entry → List Entry → Entry
first_or e [] = e
first_or e (x ∷ xs) = x

pub price_told : (es : List Entry) (e : Entry) → of_lever 3 es ≡ e ∷ [] → price_words es ≡ fall_words e
unfolding of_lever price_words equal
price_told [] e p = absurd (omega (arith, ap length p))
price_told (x ∷ es) e p = by (eqb x.lever 3) (price_told es e) p
  where
    by : (t : Bool) → (of_lever 3 es ≡ e ∷ [] → price_words es ≡ fall_words e) → cond t (x ∷ of_lever 3 es) (of_lever 3 es) ≡ e ∷ [] → cond t (fall_words x) (price_words es) ≡ fall_words e
    by true rest h = ap (λ (s : List Entry). fall_words (first_or e s)) h
    by false rest h = rest h

pub no_price_told : (es : List Entry) → of_lever 3 es ≡ [] → price_words es ≡ price_words []
unfolding of_lever price_words equal
no_price_told [] p = refl
no_price_told (x ∷ es) p = by (eqb x.lever 3) (no_price_told es) p
  where
    by : (t : Bool) → (of_lever 3 es ≡ [] → price_words es ≡ price_words []) → cond t (x ∷ of_lever 3 es) (of_lever 3 es) ≡ [] → cond t (fall_words x) (price_words es) ≡ price_words []
    by true rest h = absurd (omega (arith, ap length h))
    by false rest h = rest h

module _ {answer : Boundary} {a : Question} (x : WinExact answer a) where
  -- A FALL BY WHAT IS TOLD IS ENOUGH
  pub told-fall-suffices : (b : ℕ) → entries_for 3 answer ≡ price_entry a b ∷ [] → wins a 3 (after_fall b) ≡ true
  told-fall-suffices b e =
      let at = x.price.exact b e in
      (at.exactly (after_fall b) (omega arith, omega arith)).1 (omega (arith, tenths_suffice (ppm - b), at.in_range.1))

  -- WHERE NO PRICE IS TOLD, NONE WOULD DO, not even 0
  pub told_none : entries_for 3 answer ≡ [] → (v : ℕ) → In win_price v → wins a 3 v ≡ false
  told_none e = x.price.missing.0 e

  -- WHERE NO LEVER IS TOLD, neither quality nor latency nor ceiling would do alone
  pub told-no-lever : entries_of answer ≡ [] → Nowhere (wins a 1) (win_quality a.model) × Nowhere (wins a 2) (win_latency a.model)
      × Nowhere (wins a 4) (win_ceiling a.model)
  unfolding of_lever
  told-no-lever e = (x.quality.missing.0 (ap (of_lever 1) e), x.latency.missing.0 (ap (of_lever 2) e), x.ceiling.missing.0 (ap (of_lever 4) e))

-- AN INPUT THAT THE DESK ANSWERS HAS AN EXACT ANSWER: for a switched-on model that is neither selected nor stopped by the request, nothing else assumed
pub asked_exact : (id : ℕ) (input : List ℕ) (l : Listed) → ask_faults id input ≡ []
    → let p =
    stored_policy input in let q =
    program_request input in let ls =
    program_models input in Unselected (cost_under p) p q ls id l → SwitchedOn l.model
    → WinExact (asked_of id input) (question (cost_under p) p q ls id l.model)
unfolding ask_faults program_faults
asked_exact id input l passed u on =
    let p = stored_policy input in
    let ls = program_models input in
    let form = form_faults program_tags input ++ refuse_if (ltb max_program_models (records_in (length (stored_bank input)))) (fault 19) in
    let program = none_first (program_faults input) (unlisted_faults (first_listed id ls)) passed in
    let catalog = none_after form (catalog_faults p ls) (none_first (form ++ catalog_faults p ls) (request_faults (program_request input) 0) program) in
    win-exact (cost_under p) p (program_request input) ls id l u (cost_rises p.rounding) (catalog_unique p ls catalog) on
