-- Fields one after the other: how far a form was read, and what its end tells. Assumes nothing.
use Rattle.rules.proofs.Kit.{eqb, ℕ, ◌+◌, ◌-◌, ◌≤◌, ◌<◌, ◌≡◌, ap, ◌∙◌, true, false, List, [], ◌∷◌, ◌++◌, arith, add-one, length, get_or, take}
use Rattle.rules.proofs.Kit.{drop}
use Rattle.rules.proofs.Kit.{length-drop, drop_of_length-le, drop-cons, take_all}
use Rattle.rules.specs.{Refused.first_fault, Refused.told_outcome, Stored.after_of, Stored.left_out, Stored.due_faults, Stored.after_due}
use Rattle.rules.specs.{Stored.form_faults, declared.refusal.Refusal.Refusal}
use Rattle.stored_fields.specs.{Fields.told_field}
use Rattle.std.specs.Prelude.{Result, Ok, Err, ⊤, IsErrAnd}
use Rattle.stored_layout.specs.Layout.{due_of}
use Rattle.rules.proofs.Faults.{none_after, none_first, exit_is}
use Rattle.stored_layout.proofs.{Passing.Passed, Due.due_passed, Due.due_after, Due.due_within, Due.size_told, Due.refused_told}
use Rattle.rules.specs.declared.refusal.Refusal.TheVariants as refusal

-- What is left of a list from a position on, as code takes it
pub to_end : (s : List ℕ) (at : ℕ) → take (length s - at) (drop at s) ≡ drop at s
to_end s at = take_all (length s - at) (drop at s) (omega (arith, length-drop at s))

-- A form is read up to a tag, so that these bytes are left: they tell the same
pub record ReadTo (tags form : List ℕ) (i : ℕ) (rest : List ℕ) : Type 0 where
  pub same : form_faults tags form ≡ form_faults (drop i tags) rest

-- the field that is due, and what comes after it
due : (tags rest : List ℕ) (i : ℕ) → i < length tags
    → form_faults (drop i tags) rest ≡ due_faults (get_or tags i 0) rest ++ form_faults (drop (i + 1) tags) (after_due (get_or tags i 0) rest)
unfolding form_faults
due tags rest i h = rw (drop-cons tags i 0 h, add-one i)

-- ONE FIELD lies within what is left
pub read-within : {n : ℕ} (tag : ℕ) (rest : List ℕ) → told_field (Ok n) ≡ due_of tag rest → n ≤ length rest
read-within tag rest told =
    let t = size_told tag rest told in
    omega (arith, due_within tag rest t.0, t.1)

module _ {tags form rest : List ℕ} {i : ℕ} (r : ReadTo tags form i rest) (h : i < length tags) where
  -- ONE FIELD MORE is read
  pub read_more : {n : ℕ} → told_field (Ok n) ≡ due_of (get_or tags i 0) rest → ReadTo tags form (i + 1) (drop n rest)
  read_more told =
      let t = size_told (get_or tags i 0) rest told in
      record { same = r.same ∙ due tags rest i h ∙ rw (t.0, due_after (get_or tags i 0) rest, ← t.1) }

  -- A FIELD THAT IS REFUSED refuses the form
  pub read-refused : (o : Result ⊤ Refusal) (k : Refusal) → IsErrAnd o (λ e. e ≡ k) → told_field (Err k) ≡ due_of (get_or tags i 0) rest
      → told_outcome o ≡ first_fault (form_faults tags form)
  read-refused o k is told = rw (exit_is o k is, r.same, due tags rest i h) (refused_told k (get_or tags i 0) rest _ told)

-- A FORM THAT PASSES: its first field does, and so does what comes after that
module _ (tag : ℕ) (tags s : List ℕ) where
  pub form-due : form_faults (tag ∷ tags) s ≡ [] → (due_faults tag s ≡ []) × (form_faults tags (after_due tag s) ≡ [])
  unfolding form_faults
  form-due e = (none_first (due_faults tag s) _ e, none_after (due_faults tag s) _ e)

  pub form-passed : left_out tag s ≡ false → form_faults (tag ∷ tags) s ≡ [] → Passed tag s × (form_faults tags (after_of s) ≡ [])
  form-passed m e =
      let t = form-due e in
      (due_passed tag s m t.0, rw m at t.1)

  -- A FIELD THAT IS MISSING changes nothing
  pub form-left-out : left_out tag s ≡ true → form_faults (tag ∷ tags) s ≡ form_faults tags s
  unfolding form_faults
  form-left-out m = rw m

-- THE END, once all fields are read
module _ {tags form rest : List ℕ} {i : ℕ} (r : ReadTo tags form i rest) (h : length tags ≤ i) where
  at-end : form_faults tags form ≡ form_faults [] rest
  at-end = r.same ∙ ap (λ (ts : List ℕ). form_faults ts rest) (drop_of_length-le tags {i = i} h)

  pub read-beyond : false ≡ eqb (length rest) 0 → told_outcome (Err refusal.WrongTag) ≡ first_fault (form_faults tags form)
  unfolding form_faults told_outcome first_fault
  read-beyond e = rw (at-end, ← e)

  pub read_whole : true ≡ eqb (length rest) 0 → told_outcome (Ok tt) ≡ first_fault (form_faults tags form)
  unfolding form_faults told_outcome first_fault
  read_whole e = rw (at-end, ← e)
