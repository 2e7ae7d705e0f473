-- The body of a whole field: what it says, and what it is refused for, by cases. Assumes nothing.
use Rattle.rules.proofs.Kit.{ℕ, ◌+◌, ◌≤◌, ◌<◌, ◌≡◌, refl, sym, ◌∙◌, Bool, true, false, not, ◌&&◌, List, ◌++◌, arith, eqb-true, eqb, length, get_or}
use Rattle.rules.specs.{Limits.field_header_bytes, Bytes.number, Bytes.number_at, Refused.fault, Refused.refuse_if, Refused.first_fault, Refused.told_outcome}
use Rattle.rules.specs.{Stored.body_length, Stored.body_of, Stored.body_faults}
use Rattle.endian.proofs.Spelled.{byte_at}
use Rattle.stored_fields.specs.Fields.{Bodied}
use Rattle.stored_fields.proofs.Lengths.{fits_rounding, fits_allowance}
use Rattle.rules.specs.declared.refusal.Refusal.TheVariants as refusal
use Rattle.std.specs.Prelude.{Ok, Err}

-- What the code tests of a body: tag 4's byte is not 1; the number of tag 5's four is 0
abbrev pub not_once : ℕ → List ℕ → Bool
not_once tag s = eqb tag 4 && not (eqb (get_or s field_header_bytes 0) 1)

abbrev pub none_allowed : ℕ → List ℕ → Bool
none_allowed tag s = eqb tag 5 && eqb (number_at s field_header_bytes 4) 0

-- THE BODY OF TAG 4 is a byte, that of tag 5 four
module _ (tag : ℕ) (s : List ℕ) (k : Bodied tag s) where
  body-said : (n : ℕ) → body_length s ≡ n → number (body_of s) ≡ number_at s field_header_bytes n
  unfolding body_of
  body-said n e = rw e

  one_byte : tag ≡ 4 → body_length s ≡ 1
  one_byte e = fits_rounding (body_length s) (rw e at k.right)

  four_bytes : tag ≡ 5 → body_length s ≡ 4
  four_bytes e = fits_allowance (body_length s) (rw e at k.right)

  pub rounding-within : tag ≡ 4 → field_header_bytes < length s
  rounding-within e = omega (arith, k.whole, one_byte e)

  pub allowance-within : tag ≡ 5 → field_header_bytes + 4 ≤ length s
  allowance-within e = omega (arith, k.whole, four_bytes e)

  rounding-said : tag ≡ 4 → number (body_of s) ≡ get_or s field_header_bytes 0
  rounding-said e = body-said 1 (one_byte e) ∙ sym (byte_at s field_header_bytes (rounding-within e))

  pub allowance-said : tag ≡ 5 → number (body_of s) ≡ number_at s field_header_bytes 4
  allowance-said e = body-said 4 (four_bytes e)

  -- ---- what refuses it

  -- what is asked of a tag alone is asked of what its bytes say
  asked_of : (t : ℕ) (x y : Bool) → (tag ≡ t → x ≡ y) → (eqb tag t && x) ≡ (eqb tag t && y)
  asked_of t x y h = go (eqb tag t) refl
    where
      go : (b : Bool) → eqb tag t ≡ b → (b && x) ≡ (b && y)
      go false e = refl
      go true e = h (eqb-true tag t e)

  body-tests : body_faults tag (body_of s) ≡ refuse_if (not_once tag s) (fault 23) ++ refuse_if (none_allowed tag s) (fault 25)
  unfolding body_faults
  body-tests =
      rw (
        asked_of 4 (not (eqb (number (body_of s)) 1)) (not (eqb (get_or s field_header_bytes 0) 1)) (λ e. rw (rounding-said e)),
        asked_of 5 (eqb (number (body_of s)) 0) (eqb (number_at s field_header_bytes 4) 0) (λ e. rw (allowance-said e)),
      )

  pub body-unknown : not_once tag s ≡ true → told_outcome (Err refusal.UnknownRounding) ≡ first_fault (body_faults tag (body_of s))
  unfolding told_outcome first_fault
  body-unknown u = rw (body-tests, u)

  pub body-zero : not_once tag s ≡ false → none_allowed tag s ≡ true
      → told_outcome (Err refusal.ZeroAllowance) ≡ first_fault (body_faults tag (body_of s))
  unfolding told_outcome first_fault
  body-zero u z = rw (body-tests, u, z)

  pub body-passes : not_once tag s ≡ false → none_allowed tag s ≡ false → told_outcome (Ok tt) ≡ first_fault (body_faults tag (body_of s))
  unfolding told_outcome first_fault
  body-passes u z = rw (body-tests, u, z)
