-- What a field that passes says of the bytes. Assumes nothing.
use Rattle.rules.proofs.Kit.{◌⊎◌, ⊎_elim, ℕ, ◌+◌, ◌≡◌, refl, Bool, true, false, not, ◌&&◌, ◌||◌, List, [], ◌++◌, arith, not-false, eq-eqb, eqb, ltb}
use Rattle.rules.proofs.Kit.{length, length-take, length-drop}
use Rattle.rules.specs.{Limits.field_header_bytes, Refused.fault, Refused.refuse_if, Stored.fits, Stored.tag_of, Stored.body_length, Stored.body_of}
use Rattle.rules.specs.{Stored.body_faults, Stored.field_faults, Stored.left_out}
use Rattle.rules.proofs.Faults.{none_first, none_after, test_none, below_none, equal_none}
use Rattle.stored_fields.specs.Fields.{Bodied}
use Rattle.stored_layout.specs.Layout.{Whole}

-- A field that passes: it has its tag, a length and a body that the tag has, and is not cut
pub record Passed (tag : ℕ) (s : List ℕ) : Type 0 where
  pub lead : tag_of s ≡ tag
  pub right : fits tag (body_length s) ≡ true
  pub whole : Whole s
  pub body : body_faults tag (body_of s) ≡ []

pub field_passed : (tag : ℕ) (s : List ℕ) → field_faults tag s ≡ [] → Passed tag s
unfolding field_faults
field_passed tag s e =
    let header = refuse_if (eqb (length s) 0) (fault 21) ++ refuse_if (ltb (length s) field_header_bytes) (fault 20) in
    let tags = refuse_if (not (eqb (tag_of s) tag)) (fault 21) in
    let sizes = refuse_if (not (fits tag (body_length s))) (fault 22) in
    let cuts = refuse_if (ltb (length s) (field_header_bytes + body_length s)) (fault 20) in
    let all : header ++ tags ++ sizes ++ cuts ≡ [] = none_first (header ++ tags ++ sizes ++ cuts) _ e in
    let front : header ++ tags ++ sizes ≡ [] = none_first (header ++ tags ++ sizes) cuts all in
    record {
      lead = equal_none (tag_of s) tag (fault 21) (none_after header tags (none_first (header ++ tags) sizes front));
      right = not-false (fits tag (body_length s)) (test_none (not (fits tag (body_length s))) (fault 22) (none_after (header ++ tags) sizes front));
      whole = below_none (length s) (field_header_bytes + body_length s) (fault 20) (none_after (header ++ tags ++ sizes) cuts all);
      body = none_after (header ++ tags ++ sizes ++ cuts) _ e;
    }

-- Its body stands there whole
pub bodied : {tag : ℕ} {s : List ℕ} → Passed tag s → Bodied tag s
bodied p = record { right = p.right; whole = p.whole }

-- and is as long as it says
pub body_length_lem : (s : List ℕ) → Whole s → length (body_of s) ≡ body_length s
unfolding body_of
body_length_lem s w = simp (length-take, length-drop) (omega arith)

-- The tags that may be left out
abbrev pub optional : ℕ → Bool
optional tag = eqb tag 4 || eqb tag 5

pub either-optional : (tag : ℕ) → (tag ≡ 4) ⊎ ((tag ≡ 4 → ⊥) × (tag ≡ 5)) → optional tag ≡ true
either-optional tag e = ⊎_elim (λ w. rw w) (λ w. rw w.1) e

-- One that passes is not
pub passed_there : (tag : ℕ) (s : List ℕ) → Passed tag s → left_out tag s ≡ false
passed_there tag s p = rw (eq-eqb (tag_of s) tag p.lead) (go (optional tag))
  where
    go : (b : Bool) → (b && false) ≡ false
    go true = refl
    go false = refl
