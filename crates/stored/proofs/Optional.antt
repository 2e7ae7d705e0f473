-- What a policy says beside its numbers, both ways: tag 4 or nothing, then tag 5 or nothing. Assumes nothing.
use Rattle.rules.proofs.Kit.{ℕ, ◌^◌, ◌<◌, ◌≡◌, refl, sym, ap, ◌∙◌, Bool, true, false, cond, ⊎_elim, List, [], ◌∷◌, ◌++◌, arith, eq-zero-or-pos, ne_eqb, eqb, length}
use Rattle.rules.specs.{Choice.equal, Bytes.number, Bytes.bytes_of, Stored.field_bytes, Stored.fits, Stored.body_of, Stored.after_of, Stored.body_faults}
use Rattle.rules.specs.{Stored.left_out, Stored.due_faults, Stored.after_due, Stored.form_faults, Stored.rounding_field, Stored.allowance_field, Stored.optional_fields}
use Rattle.rules.specs.{Stored.rounding_from, Stored.allowance_from, declared.records.PolicySnapshot.PolicySnapshot, declared.records.Rounding.Rounding}
use Rattle.rules.specs.declared.records.Rounding.TheVariants.{Apart, Once}
use Rattle.rules.proofs.Choices.{equal-yes, equal-no}
use Rattle.endian.proofs.Numbers.{Small, small_drop, number_bytes, bytes_number}
use Rattle.endian_writing.proofs.Bytes.{length_bytes}
use Rattle.stored_layout.specs.Layout.{due_size}
use Rattle.stored_layout.proofs.{Passing.Passed, Passing.passed_there, Due.due_passed, Due.due_after, Forms.form-due, Forms.form-passed, Forms.form-left-out}
use Rattle.stored_layout.proofs.Lengths.{rounding_body, allowance_length, allowance_above}
use Rattle.stored.proofs.Trips.{form_passes, end_passed, rest_back, written-passes, last-body, last-passes, last-form, small_body}
use Rattle.stored.proofs.Trips.{field_forth, last_forth}

-- ---- tag 4, before something that doesn't begin with a 4

module _ (rest : List ℕ) (other : left_out 4 rest ≡ true) where
  once-passes : Passed 4 (field_bytes 4 (1 ∷ []) ++ rest)
  unfolding fits equal body_faults number
  once-passes = written-passes 4 (1 ∷ []) rest (omega arith) refl refl

  -- WHAT WAS WRITTEN PASSES
  rounding-passes : (r : Rounding) (tags : List ℕ) → form_faults tags rest ≡ [] → form_faults (4 ∷ tags) (rounding_field r ++ rest) ≡ []
  unfolding rounding_field
  rounding-passes Apart tags e = form-left-out 4 tags rest other ∙ e
  rounding-passes Once tags e = form_passes 4 tags _ once-passes (rw (rest_back 4 (1 ∷ []) rest (omega arith)) e)

  -- AND SAYS THE SAME, before the rest
  rounding-says : (r : Rounding) → rounding_from (rounding_field r ++ rest) ≡ r
  unfolding rounding_field
  rounding-says Apart = rw other
  rounding-says Once = rw (passed_there 4 _ once-passes)

  rounding-rest : (r : Rounding) → after_due 4 (rounding_field r ++ rest) ≡ rest
  unfolding rounding_field
  rounding-rest Apart = rw other
  rounding-rest Once = rw (passed_there 4 _ once-passes) (rest_back 4 (1 ∷ []) rest (omega arith))

-- WHAT PASSES IS WRITTEN AS IT WAS, before what stood after it
rounding_forth : (s : List ℕ) → Small s → due_faults 4 s ≡ [] → rounding_field (rounding_from s) ++ after_due 4 s ≡ s
unfolding rounding_field
rounding_forth s small e = go (left_out 4 s) refl
  where
    go : (b : Bool) → left_out 4 s ≡ b → rounding_field (cond b Apart Once) ++ cond b s (after_of s) ≡ s
    go true m = refl
    go false m =
        let p = due_passed 4 s m e in
        ap (λ (body : List ℕ). field_bytes 4 body ++ after_of s) (sym (rounding_body s p)) ∙ field_forth 4 s small p

-- ---- tag 5, at the end

module _ (a : ℕ) where
  above : 0 < a → a ≡ 0 → ⊥
  above h e = omega (arith, h, e)

  pub no_field : a ≡ 0 → allowance_field a ≡ []
  unfolding allowance_field
  no_field e = equal-yes a 0 _ _ e

  pub its-field : (a ≡ 0 → ⊥) → allowance_field a ≡ field_bytes 5 (bytes_of 4 a)
  unfolding allowance_field
  its-field h = equal-no a 0 _ _ h

  -- it doesn't begin with a 4
  allowance-other : left_out 4 (allowance_field a) ≡ true
  unfolding allowance_field equal field_bytes number
  allowance-other = go (eqb a 0)
    where
      go : (none : Bool) → left_out 4 (cond none [] (field_bytes 5 (bytes_of 4 a))) ≡ true
      go true = refl
      go false = refl

  module _ (four : a < 256 ^ 4) where
    short : length (bytes_of 4 a) < 65536
    short = omega (arith, length_bytes 4 a)

    its-passes : (a ≡ 0 → ⊥) → Passed 5 (field_bytes 5 (bytes_of 4 a))
    unfolding fits equal body_faults
    its-passes h = last-passes 5 (bytes_of 4 a) short (rw (length_bytes 4 a)) (rw (number_bytes 4 a four, ne_eqb a 0 h))

    -- WHAT WAS WRITTEN PASSES
    allowance-passes : form_faults (5 ∷ []) (allowance_field a) ≡ []
    unfolding form_faults number
    allowance-passes =
        ⊎_elim (λ e. rw (no_field e)) (λ h. rw (its-field (above h)) (last-form 5 (bytes_of 4 a) short (its-passes (above h)))) (eq-zero-or-pos a)

    -- AND SAYS THE SAME
    allowance-says : allowance_from (allowance_field a) ≡ a
    unfolding number
    allowance-says =
        ⊎_elim
        (λ e. rw (no_field e) (sym e))
        (λ h. rw (its-field (above h), passed_there 5 _ (its-passes (above h)), last-body 5 (bytes_of 4 a) short) (number_bytes 4 a four))
        (eq-zero-or-pos a)

-- WHAT PASSES IS WRITTEN AS IT WAS
allowance_forth : (s : List ℕ) → Small s → form_faults (5 ∷ []) s ≡ [] → allowance_field (allowance_from s) ≡ s
allowance_forth s small e = go (left_out 5 s) refl
  where
    go : (b : Bool) → left_out 5 s ≡ b → allowance_field (cond b 0 (number (body_of s))) ≡ s
    go true m = no_field 0 refl ∙ sym (end_passed s (sym (form-left-out 5 [] s m) ∙ e))
    go false m =
        let f = form-passed 5 [] s m e in
        let four = allowance_length s f.0 in
        let body : bytes_of 4 (number (body_of s)) ≡ body_of s = rw four at (bytes_number (body_of s) (small_body s small)) in
        its-field _ (allowance_above s f.0) ∙ ap (field_bytes 5) body ∙ last_forth 5 s small f.0 f.1

-- ---- both

module _ (p : PolicySnapshot) where
  -- WHAT WAS WRITTEN PASSES, where the allowance fits its four bytes
  pub optional-passes : p.latency_allowance_ms < 256 ^ 4 → form_faults (4 ∷ 5 ∷ []) (optional_fields p) ≡ []
  optional-passes four =
      let a = p.latency_allowance_ms in
      rounding-passes (allowance_field a) (allowance-other a) p.rounding (5 ∷ []) (allowance-passes a four)

  -- AND SAYS THE SAME
  pub optional-rounding : rounding_from (optional_fields p) ≡ p.rounding
  optional-rounding = rounding-says _ (allowance-other p.latency_allowance_ms) p.rounding

  pub optional-allowance : p.latency_allowance_ms < 256 ^ 4 → allowance_from (after_due 4 (optional_fields p)) ≡ p.latency_allowance_ms
  optional-allowance four =
      let a = p.latency_allowance_ms in
      rw (rounding-rest (allowance_field a) (allowance-other a) p.rounding) (allowance-says a four)

-- WHAT PASSES IS WRITTEN AS IT WAS
pub optional_forth : (s : List ℕ) → Small s → form_faults (4 ∷ 5 ∷ []) s ≡ []
    → rounding_field (rounding_from s) ++ allowance_field (allowance_from (after_due 4 s)) ≡ s
optional_forth s small e =
    let t = form-due 4 (5 ∷ []) s e in
    let rest : Small (after_due 4 s) = rw (due_after 4 s) (small_drop (due_size 4 s) s small) in
    ap (λ (t : List ℕ). rounding_field (rounding_from s) ++ t) (allowance_forth (after_due 4 s) rest t.1) ∙ rounding_forth s small t.0
