-- One field, by cases: which premises lead to which answer. Assumes nothing.
use Rattle.rules.proofs.Kit.{ℕ, ◌+◌, ◌≤◌, ◌<◌, ◌≡◌, refl, sym, ◌∙◌, true, false, not, List, [], ◌∷◌, ◌++◌, arith, lt-ltb, le-ltb, eq-eqb, ne_eqb, ltb, length, get_or}
use Rattle.rules.specs.{Limits.field_header_bytes, Refused.fault, Refused.refuse_if, Refused.first_fault, Refused.told_outcome, Refused.answered}
use Rattle.rules.specs.{Stored.fits, Stored.tag_of, Stored.body_length, Stored.body_of, Stored.body_faults, Stored.field_faults, declared.refusal.Refusal.Refusal}
use Rattle.std.specs.Prelude.{Result, Ok, Err, IsErrAnd}
use Rattle.rules.proofs.Faults.{exit_answer, passed_answer}
use Rattle.endian.proofs.Numbers.{number_one}
use Rattle.stored_fields.specs.{Fields.told_field, Fields.field_size, Fields.field_of, Fields.Headed, Fields.Bodied}
use Rattle.rules.specs.declared.refusal.Refusal.TheVariants as refusal

-- The tag is the first byte
pub first_tag : (s : List ℕ) → field_header_bytes ≤ length s → get_or s 0 0 ≡ tag_of s
first_tag [] h = absurd (omega arith)
first_tag (b ∷ s) h = sym (number_one b)

-- ---- the cases, in their order

module _ (tag : ℕ) (s : List ℕ) where
  pub field-none : length s ≡ 0 → told_field (Err refusal.WrongTag) ≡ field_of tag s
  unfolding field_of field_faults
  field-none e = rw (eq-eqb (length s) 0 e)

  pub field_cut : (length s ≡ 0 → ⊥) → length s < field_header_bytes → told_field (Err refusal.CutShort) ≡ field_of tag s
  unfolding field_of field_faults
  field_cut e h = rw (ne_eqb (length s) 0 e, lt-ltb (length s) field_header_bytes h)

  pub field-tag : field_header_bytes ≤ length s → (get_or s 0 0 ≡ tag → ⊥) → told_field (Err refusal.WrongTag) ≡ field_of tag s
  unfolding field_of field_faults
  field-tag h e =
      rw (
        ne_eqb (length s) 0 (λ z. omega (arith, z, h)),
        le-ltb (length s) field_header_bytes h,
        ne_eqb (tag_of s) tag (λ p. e (first_tag s h ∙ p)),
      )

  -- once the header stands there
  module _ (k : Headed tag s) (n : ℕ) (l : n ≡ body_length s) where
    after-header : field_faults tag s
        ≡ refuse_if (not (fits tag n)) (fault 22) ++ refuse_if (ltb (length s) (field_header_bytes + n)) (fault 20) ++ body_faults tag (body_of s)
    unfolding field_faults
    after-header =
        rw (
          ne_eqb (length s) 0 (λ e. omega (arith, e, k.long)),
          le-ltb (length s) field_header_bytes k.long,
          eq-eqb (tag_of s) tag (sym (first_tag s k.long) ∙ k.lead),
          ← l,
        )

    pub field-length : fits tag n ≡ false → told_field (Err refusal.WrongLength) ≡ field_of tag s
    unfolding field_of
    field-length f = rw (after-header, f)

    pub field-short : fits tag n ≡ true → length s < field_header_bytes + n → told_field (Err refusal.CutShort) ≡ field_of tag s
    unfolding field_of
    field-short f g = rw (after-header, f, lt-ltb (length s) (field_header_bytes + n) g)

    module _ (f : fits tag n ≡ true) (g : field_header_bytes + n ≤ length s) where
      pub bodied : Bodied tag s
      bodied = record { right = rw (← l) f; whole = rw (← l) g }

      body-left : field_faults tag s ≡ body_faults tag (body_of s)
      body-left = after-header ∙ rw (f, le-ltb (length s) (field_header_bytes + n) g)

      -- then its body decides
      pub field-refused : (r : Result ℕ Refusal) (e : Refusal) → IsErrAnd r (λ x. x ≡ e) → told_outcome (Err e) ≡ first_fault (body_faults tag (body_of s))
          → told_field r ≡ field_of tag s
      unfolding field_of
      field-refused r e is told = rw body-left (exit_answer (λ n. n) r e (body_faults tag (body_of s)) (answered (field_size s)) is told)

      pub field-whole : told_outcome (Ok tt) ≡ first_fault (body_faults tag (body_of s)) → told_field (Ok (field_header_bytes + n)) ≡ field_of tag s
      unfolding field_of
      field-whole told = rw (body-left, ← l) (passed_answer (body_faults tag (body_of s)) _ _ told refl)
