-- One field both ways, whatever its tag: what was written is read, and what was read is written. Assumes nothing.
use Rattle.rules.proofs.Kit.{le-ltb, eq-eqb, ne_eqb, ℕ, ◌+◌, ◌≤◌, ◌<◌, ◌≡◌, refl, sym, ap, ◌∙◌, true, List, [], ◌∷◌, ◌++◌, append_assoc, append-nil, arith}
use Rattle.rules.proofs.Kit.{length, get_or, take, drop, length-append, length-take, length-drop, take-append-drop, drop-cons, drop-drop, take-append_seam}
use Rattle.rules.proofs.Kit.{drop-append_seam}
use Rattle.rules.specs.{Limits.field_header_bytes, Bytes.bytes_of, Refused.fault, Stored.field_bytes, Stored.fits, Stored.tag_of, Stored.body_length, Stored.body_of}
use Rattle.rules.specs.{Stored.after_of, Stored.body_faults, Stored.field_faults, Stored.form_faults}
use Rattle.endian.proofs.Numbers.{Small, small_take, small_drop, number_bytes, number_one, bytes_number}
use Rattle.rules.proofs.Faults.{equal_none}
use Rattle.stored_fields.proofs.OneField.{first_tag}
use Rattle.stored_layout.proofs.Passing.{Passed, passed_there, body_length_lem}

-- ---- a field that passes has no fault

pub field_passes : (tag : ℕ) (s : List ℕ) → Passed tag s → field_faults tag s ≡ []
unfolding field_faults
field_passes tag s p =
    rw (
      ne_eqb (length s) 0 (λ e. omega (arith, e, p.whole)),
      le-ltb (length s) field_header_bytes (omega (arith, p.whole)),
      eq-eqb (tag_of s) tag p.lead,
      p.right,
      le-ltb (length s) (field_header_bytes + body_length s) p.whole,
      p.body,
    )

pub form_passes : (tag : ℕ) (tags s : List ℕ) → Passed tag s → form_faults tags (after_of s) ≡ [] → form_faults (tag ∷ tags) s ≡ []
unfolding form_faults
form_passes tag tags s p e = rw (passed_there tag s p, field_passes tag s p, e)

-- THE END, both ways: nothing is left
pub end_passes : form_faults [] [] ≡ []
unfolding form_faults
end_passes = refl

pub end_passed : (s : List ℕ) → form_faults [] s ≡ [] → s ≡ []
unfolding form_faults
end_passed [] e = refl
end_passed (b ∷ s) e = absurd (omega (arith, equal_none (length (b ∷ s)) 0 (fault 21) e))

-- ---- a field that was written, before some rest

module _ (tag : ℕ) (body rest : List ℕ) where
  -- its tag, what stands after its header, and how long it is
  written-lead : tag_of (field_bytes tag body ++ rest) ≡ tag
  unfolding field_bytes
  written-lead = number_one tag

  written_after : drop field_header_bytes (field_bytes tag body ++ rest) ≡ body ++ rest
  unfolding field_bytes bytes_of
  written_after = refl

  written-long : length (field_bytes tag body ++ rest) ≡ field_header_bytes + (length body + length rest)
  unfolding field_bytes bytes_of
  written-long = simp length-append (omega arith)

  module _ (h : length body < 65536) where
    written-size : body_length (field_bytes tag body ++ rest) ≡ length body
    unfolding field_bytes bytes_of
    written-size = number_bytes 2 (length body) h

    -- ITS BODY AND THE REST COME BACK
    pub body_back : body_of (field_bytes tag body ++ rest) ≡ body
    unfolding body_of
    body_back = rw (written-size, written_after) (take-append_seam body rest)

    pub rest_back : after_of (field_bytes tag body ++ rest) ≡ rest
    unfolding after_of
    rest_back = rw (written-size, ← drop-drop (length body) field_header_bytes (field_bytes tag body ++ rest), written_after) (drop-append_seam body rest)

    -- IT PASSES
    pub written-passes : fits tag (length body) ≡ true → body_faults tag body ≡ [] → Passed tag (field_bytes tag body ++ rest)
    written-passes f b =
        record {
          lead = written-lead;
          right = rw written-size f;
          whole = omega (arith, written-long, written-size);
          body = rw body_back b;
        }

-- and one that is the last
module _ (tag : ℕ) (body : List ℕ) (h : length body < 65536) where
  pub last-body : body_of (field_bytes tag body) ≡ body
  last-body = ap body_of (sym (append-nil (field_bytes tag body))) ∙ body_back tag body [] h

  pub last-passes : fits tag (length body) ≡ true → body_faults tag body ≡ [] → Passed tag (field_bytes tag body)
  last-passes f b = rw append-nil at (written-passes tag body [] h f b)

  pub last-form : Passed tag (field_bytes tag body) → form_faults (tag ∷ []) (field_bytes tag body) ≡ []
  last-form p =
      let nothing : after_of (field_bytes tag body) ≡ [] = ap after_of (sym (append-nil (field_bytes tag body))) ∙ rest_back tag body [] h in
      form_passes tag [] (field_bytes tag body) p (ap (form_faults []) nothing ∙ end_passes)

-- ---- a field that was read

-- its body and what stands after it
parts : (s : List ℕ) → body_of s ++ after_of s ≡ drop field_header_bytes s
unfolding body_of after_of
parts s =
    ap (λ (t : List ℕ). take (body_length s) (drop field_header_bytes s) ++ t) (sym (drop-drop (body_length s) field_header_bytes s))
    ∙ take-append-drop (body_length s) (drop field_header_bytes s)

-- each of small bytes
pub small_body : (s : List ℕ) → Small s → Small (body_of s)
unfolding body_of
small_body s small = small_take (body_length s) (drop field_header_bytes s) (small_drop field_header_bytes s small)

pub small_after : (s : List ℕ) → Small s → Small (after_of s)
unfolding after_of
small_after s small = small_drop (field_header_bytes + body_length s) s small

-- A FIELD THAT PASSES IS WRITTEN AS IT WAS, before what stood after it
pub field_forth : (tag : ℕ) (s : List ℕ) → Small s → Passed tag s → field_bytes tag (body_of s) ++ after_of s ≡ s
unfolding field_bytes
field_forth tag s small p =
    let h : field_header_bytes ≤ length s = omega (arith, p.whole) in
    let lead : tag ≡ get_or s 0 0 = sym (first_tag s h ∙ p.lead) in
    let two : length (take 2 (drop 1 s)) ≡ 2 = simp (length-take, length-drop) (omega arith) in
    let size : bytes_of 2 (length (body_of s)) ≡ take 2 (drop 1 s) =
    ap (bytes_of 2) (body_length_lem s p.whole) ∙ rw two at (bytes_number (take 2 (drop 1 s)) (small_take 2 (drop 1 s) (small_drop 1 s small))) in
    ap (λ (t : List ℕ). tag ∷ t) (append_assoc (bytes_of 2 (length (body_of s))) (body_of s) (after_of s))
    ∙ (λ i. lead i ∷ (size i ++ parts s i))
    ∙ ap (λ (t : List ℕ). get_or s 0 0 ∷ (take 2 (drop 1 s) ++ t)) (sym (drop-drop 2 1 s))
    ∙ ap (λ (t : List ℕ). get_or s 0 0 ∷ t) (take-append-drop 2 (drop 1 s))
    ∙ sym (drop-cons s 0 0 (omega arith))

-- The last one alone
pub last_forth : (tag : ℕ) (s : List ℕ) → Small s → Passed tag s → form_faults [] (after_of s) ≡ [] → field_bytes tag (body_of s) ≡ s
last_forth tag s small p e =
    sym (append-nil (field_bytes tag (body_of s))) ∙ ap (λ (t : List ℕ). field_bytes tag (body_of s) ++ t) (sym (end_passed (after_of s) e))
    ∙ field_forth tag s small p
