-- The eligible entries of a list, one after the other. Assumes nothing.
use Rattle.rules.proofs.Kit.{ℕ, suc, ◌+◌, ◌-◌, ◌*◌, ◌/◌, ◌<◌, ◌≤◌, ◌≡◌, sym, ◌∙◌, List, none, some, arith, add-one, length, get_or, drop-drop}
use Rattle.rules.specs.{Choice.equal, Explain.verdict_at, Explain.eligible_from, Explain.next_eligible_of}
use Rattle.rules.proofs.Choices.{equal-yes, equal-no}
use Rattle.endian.proofs.Spelled.{byte_at}

-- The verdict of an entry is its byte at offset 6
pub verdict_byte : (list : List ℕ) (place : ℕ) → place < length list / 72 → verdict_at list place ≡ get_or list (72 * place + 6) 0
unfolding verdict_at
verdict_byte list place h = rw (drop-drop 6 (72 * place) list) (sym (byte_at list (72 * place + 6) (omega arith)))

module _ (list : List ℕ) (place : ℕ) where
  -- the entry at a place, then those after it
  next-step : place < length list / 72 → next_eligible_of list place ≡ equal (verdict_at list place) 4 (some place) (next_eligible_of list (place + 1))
  unfolding next_eligible_of eligible_from
  next-step h =
      let e : length list / 72 - place ≡ suc (length list / 72 - suc place) = omega arith in
      rw (e, add-one)

  -- THE ENTRY IS ELIGIBLE, OR THOSE AFTER IT DECIDE
  pub next_here : place < length list / 72 → verdict_at list place ≡ 4 → next_eligible_of list place ≡ some place
  next_here h e = next-step h ∙ equal-yes _ _ _ _ e

  pub next-later : place < length list / 72 → (verdict_at list place ≡ 4 → ⊥) → next_eligible_of list place ≡ next_eligible_of list (place + 1)
  next-later h e = next-step h ∙ equal-no _ _ _ _ e

  pub next-none : length list / 72 ≤ place → next_eligible_of list place ≡ none
  unfolding next_eligible_of eligible_from
  next-none h =
      let e : length list / 72 - place ≡ 0 = omega arith in
      rw e
