-- THE ANSWER DEPENDS ONLY ON THE FIRST 65,639 BYTES OF THE INPUT: one more than the longest input whose form passes, so that an input that is
-- longer is refused by what stands in these. Assumes nothing.
use Rattle.rules.proofs.Kit.{ℕ, zero, suc, ◌+◌, ◌-◌, ◌≤◌, ◌<◌, dec_lt, arith, zero-add, suc-add, ◌≡◌, refl, sym, ap, ◌∙◌, Bool, true, false, not, List, []}
use Rattle.rules.proofs.Kit.{◌∷◌}
use Rattle.rules.proofs.Kit.{◌++◌, eqb-true, eqb-false, le-ltb, eq-eqb, ne_eqb, eqb, ltb, length, take, drop, length-take, length-drop, take-take, take-nil}
use Rattle.rules.proofs.Kit.{take_all}
use Rattle.rules.specs.{Bytes.number, Refused.Fault, Refused.Faults, Refused.fault, Refused.refuse_if, Refused.unless, Stored.fits, Stored.tag_of}
use Rattle.rules.specs.{Stored.body_length, Stored.body_of, Stored.after_of, Stored.body_faults, Stored.field_faults, Stored.form_faults}
use Rattle.rules.specs.{Printed.program_tags, Printed.program_faults}
use Rattle.stored_fields.proofs.Lengths.{fits_policy, fits_bank, fits_request, fits_rounding, fits_allowance}
use Rattle.stored_layout.proofs.Passing.{optional}
use Rattle.program_deliver.specs.Sizes.{read_bytes}

-- ---- tests that hand back the same first number

pub data Halted : Faults → Faults → Type 0 where
  both : (f : Fault) {fs gs : Faults} → Halted (f ∷ fs) (f ∷ gs)

pub halted_more : {fs gs : Faults} (hs ks : Faults) → Halted fs gs → Halted (fs ++ hs) (gs ++ ks)
halted_more hs ks (both f) = both f

same_front : (fs : Faults) {gs hs : Faults} → Halted gs hs → Halted (fs ++ gs) (fs ++ hs)
same_front [] h = h
same_front (f ∷ fs) h = both f

pub halted_text : {fs gs : Faults} (told : Fault → List ℕ) (t u : List ℕ) → Halted fs gs → unless fs told t ≡ unless gs told u
halted_text told t u (both f) = refl

-- ---- a part of a list

drop-take : (k m : ℕ) (l : List ℕ) → drop k (take (k + m) l) ≡ take m (drop k l)
drop-take zero m l = rw (zero-add m)
drop-take (suc k) m [] = rw (take-nil (suc k + m), take-nil m)
drop-take (suc k) m (x ∷ l) = rw (suc-add k m) (drop-take k m l)

drop_part : (k n : ℕ) (l : List ℕ) → k ≤ n → drop k (take n l) ≡ take (n - k) (drop k l)
drop_part k n l h =
    let e : n ≡ k + (n - k) = omega arith in
    ap (λ (j : ℕ). drop k (take j l)) e ∙ drop-take k (n - k) l

-- ---- one field

-- A fault that stands first
data Starts (f : Fault) : Faults → Type 0 where
  starts : {fs : Faults} → Starts f (f ∷ fs)

join : {f : Fault} {fs gs : Faults} → Starts f fs → Starts f gs → Halted fs gs
join {f} starts starts = both f

module _ (tag : ℕ) (s : List ℕ) (head : 3 ≤ length s) where
  with-header : field_faults tag s
      ≡ refuse_if (not (eqb (tag_of s) tag)) (fault 21) ++ refuse_if (not (fits tag (body_length s))) (fault 22)
      ++ refuse_if (ltb (length s) (3 + body_length s)) (fault 20)
      ++ body_faults tag (body_of s)
  unfolding field_faults
  with-header = rw (ne_eqb (length s) 0 (λ e. omega arith), le-ltb (length s) 3 head)

  starts-tag : (tag_of s ≡ tag → ⊥) → Starts (fault 21) (field_faults tag s)
  starts-tag e = rw (with-header, ne_eqb (tag_of s) tag e) starts

  starts-length : tag_of s ≡ tag → fits tag (body_length s) ≡ false → Starts (fault 22) (field_faults tag s)
  starts-length e g = rw (with-header, eq-eqb (tag_of s) tag e, g) starts

  body-alone : tag_of s ≡ tag → fits tag (body_length s) ≡ true → 3 + body_length s ≤ length s → field_faults tag s ≡ body_faults tag (body_of s)
  body-alone e g h = with-header ∙ rw (eq-eqb (tag_of s) tag e, g, le-ltb (length s) (3 + body_length s) h)

after_length : (s : List ℕ) → length (after_of s) ≡ length s - (3 + body_length s)
unfolding after_of
after_length s = rw (length-drop (3 + body_length s) s)

-- THE FIRST n BYTES TELL THE SAME AS ALL, where a body that the tag allows ends within them
module _ (tag n : ℕ) (tags s : List ℕ) (long : n ≤ length s) (head : 3 ≤ n) where
  part_length : length (take n s) ≡ n
  part_length = simp length-take (omega arith)

  tag_same : tag_of (take n s) ≡ tag_of s
  tag_same = ap number (take-take 1 n s (omega arith))

  length-same : body_length (take n s) ≡ body_length s
  length-same = ap (λ (x : List ℕ). number (take 2 x)) (drop_part 1 n s (omega arith)) ∙ ap number (take-take 2 (n - 1) (drop 1 s) (omega arith))

  after_same : 3 + body_length s ≤ n → after_of (take n s) ≡ take (n - (3 + body_length s)) (after_of s)
  unfolding after_of
  after_same h = rw length-same (drop_part (3 + body_length s) n s h)

  body_same : 3 + body_length s ≤ n → body_of (take n s) ≡ body_of s
  unfolding body_of
  body_same h =
      ap (λ k. take k (drop 3 (take n s))) length-same
      ∙ ap (take (body_length s)) (drop_part 3 n s (omega arith))
      ∙ take-take (body_length s) (n - 3) (drop 3 s) (omega arith)

  field_step : (t f : Bool) → eqb (tag_of s) tag ≡ t → fits tag (body_length s) ≡ f → (f ≡ true → 3 + body_length s ≤ n)
      → (f ≡ true → Halted (form_faults tags (take (n - (3 + body_length s)) (after_of s))) (form_faults tags (after_of s)))
      → Halted (field_faults tag (take n s) ++ form_faults tags (after_of (take n s))) (field_faults tag s ++ form_faults tags (after_of s))
  field_step false f e g room rest =
      let other : tag_of s ≡ tag → ⊥ = eqb-false (tag_of s) tag e in
      halted_more _ _ (join (starts-tag tag (take n s) (omega (arith, part_length)) (λ p. other (sym tag_same ∙ p))) (starts-tag tag s (omega arith) other))
  field_step true false e g room rest =
      let same : tag_of s ≡ tag = eqb-true (tag_of s) tag e in
      halted_more _ _
      (join (starts-length tag (take n s) (omega (arith, part_length)) (tag_same ∙ same) (ap (fits tag) length-same ∙ g))
      (starts-length tag s (omega arith) same g))
  field_step true true e g room rest =
      let same : tag_of s ≡ tag = eqb-true (tag_of s) tag e in
      let h = room refl in
      rw (
        body-alone tag (take n s) (omega (arith, part_length)) (tag_same ∙ same) (ap (fits tag) length-same ∙ g) (omega (arith, part_length, length-same, h)),
        body-alone tag s (omega arith) same g (omega (arith, h)),
        body_same h,
        after_same h,
      )
      (same_front (body_faults tag (body_of s)) (rest refl))

-- ---- the fields, and a byte after them

end_step : (n : ℕ) (s : List ℕ) → 1 ≤ n → n ≤ length s → Halted (form_faults [] (take n s)) (form_faults [] s)
unfolding form_faults
end_step n s h long =
    let part : length (take n s) ≡ n = simp length-take (omega arith) in
    rw (ne_eqb (length (take n s)) 0 (λ e. omega (arith, part)), ne_eqb (length s) 0 (λ e. omega arith)) (both (fault 21))

request_step : (n : ℕ) (s : List ℕ) → 74 ≤ n → n ≤ length s → Halted (form_faults (3 ∷ []) (take n s)) (form_faults (3 ∷ []) s)
unfolding form_faults
request_step n s h long =
    field_step 3 n [] s long (omega arith) (eqb (tag_of s) 3) (fits 3 (body_length s)) refl refl
    (λ e. omega (arith, fits_request _ e))
    (λ e. end_step (n - (3 + body_length s)) (after_of s) (omega (arith, fits_request _ e)) (omega (arith, after_length s, long)))

-- a field that may be left out stands there or doesn't, of the part as of the whole
module _ (tag size least : ℕ) (tags : List ℕ) (may : optional tag ≡ true) (sized : (n : ℕ) → fits tag n ≡ true → n ≡ size)
    (rest : (n : ℕ) (s : List ℕ) → least ≤ n → n ≤ length s → Halted (form_faults tags (take n s)) (form_faults tags s)) where
  optional-step : (n : ℕ) (s : List ℕ) → 3 + size + least ≤ n → n ≤ length s → Halted (form_faults (tag ∷ tags) (take n s)) (form_faults (tag ∷ tags) s)
  unfolding form_faults
  optional-step n s h long = go (eqb (tag_of s) tag) refl
    where
      front : tag_of (take n s) ≡ tag_of s
      front = tag_same tag n [] s long (omega arith)

      go : (t : Bool) → eqb (tag_of s) tag ≡ t → Halted (form_faults (tag ∷ tags) (take n s)) (form_faults (tag ∷ tags) s)
      go false e = rw (may, front, e) (rest n s (omega arith) long)
      go true e =
          rw (may, front, e)
          (field_step tag n tags s long (omega arith) true (fits tag (body_length s)) e refl
          (λ f. omega (arith, sized _ f))
          (λ f. rest (n - (3 + body_length s)) (after_of s) (omega (arith, sized _ f)) (omega (arith, after_length s, long))))

allowance_step : (n : ℕ) (s : List ℕ) → 81 ≤ n → n ≤ length s → Halted (form_faults (5 ∷ 3 ∷ []) (take n s)) (form_faults (5 ∷ 3 ∷ []) s)
allowance_step = optional-step 5 4 74 (3 ∷ []) refl fits_allowance request_step

rounding_step : (n : ℕ) (s : List ℕ) → 85 ≤ n → n ≤ length s → Halted (form_faults (4 ∷ 5 ∷ 3 ∷ []) (take n s)) (form_faults (4 ∷ 5 ∷ 3 ∷ []) s)
rounding_step = optional-step 4 1 81 (5 ∷ 3 ∷ []) refl fits_rounding allowance_step

bank_step : (n : ℕ) (s : List ℕ) → 65606 ≤ n → n ≤ length s → Halted (form_faults (2 ∷ 4 ∷ 5 ∷ 3 ∷ []) (take n s)) (form_faults (2 ∷ 4 ∷ 5 ∷ 3 ∷ []) s)
unfolding form_faults
bank_step n s h long =
    field_step 2 n (4 ∷ 5 ∷ 3 ∷ []) s long (omega arith) (eqb (tag_of s) 2) (fits 2 (body_length s)) refl refl
    (λ e. let b = fits_bank _ e in omega (arith, b.0, b.1))
    (λ e. let b = fits_bank _ e in rounding_step (n - (3 + body_length s)) (after_of s) (omega (arith, b.0, b.1)) (omega (arith, after_length s, long)))

policy_step : (s : List ℕ) → read_bytes ≤ length s → Halted (form_faults program_tags (take read_bytes s)) (form_faults program_tags s)
unfolding form_faults
policy_step s long =
    field_step 1 read_bytes (2 ∷ 4 ∷ 5 ∷ 3 ∷ []) s long (omega arith) (eqb (tag_of s) 1) (fits 1 (body_length s)) refl refl
    (λ e. omega (arith, fits_policy _ e))
    (λ e. bank_step (read_bytes - (3 + body_length s)) (after_of s) (omega (arith, fits_policy _ e)) (omega (arith, after_length s, long)))

-- ---- the answers

pub program_halted : (s : List ℕ) → read_bytes ≤ length s → Halted (program_faults (take read_bytes s)) (program_faults s)
unfolding program_faults
program_halted s long = halted_more _ _ (halted_more _ _ (halted_more _ _ (policy_step s long)))

-- Of any answer: where the input is shorter, its part is all of it
pub by_length : (answer : List ℕ → List ℕ) (s : List ℕ) → (read_bytes ≤ length s → answer (take read_bytes s) ≡ answer s) → answer (take read_bytes s) ≡ answer s
by_length answer s long = go (dec_lt (length s) read_bytes)
  where
    go : Dec (length s < read_bytes) → answer (take read_bytes s) ≡ answer s
    go (yes h) = ap answer (take_all read_bytes s (omega arith))
    go (no h) = long (omega arith)
