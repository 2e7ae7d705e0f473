-- A field that is due and may be missing: which premises lead to which answer, and what the reader's answer tells. Assumes nothing.
use Rattle.rules.proofs.Kit.{ℕ, ◌≤◌, ◌≡◌, refl, sym, Bool, true, false, not, cond, List, [], ◌∷◌, ◌++◌, arith, eqb, length, get_or, drop}
use Rattle.rules.proofs.Kit.{drop_of_length-le, ne_eqb, false≢true}
use Rattle.rules.specs.{Bytes.number, Refused.Faults, Refused.refused, Refused.answered, Refused.unless, Refused.told_refusal, Refused.first_fault}
use Rattle.rules.specs.{Refused.told_outcome, Stored.tag_of, Stored.after_of, Stored.left_out, Stored.due_faults, Stored.after_due, declared.refusal.Refusal.Refusal}
use Rattle.endian.proofs.Spelled.{byte_at}
use Rattle.stored_fields.specs.{Fields.told_field, Fields.field_size, Fields.field_of}
use Rattle.std.specs.Prelude.{Ok, Err}
use Rattle.stored_layout.specs.Layout.{due_size, due_of}
use Rattle.stored_layout.proofs.{Passing.Passed, Passing.optional, Passing.field_passed, Buffers.none_answered}

-- A TAG THAT MAY BE MISSING is, where another byte stands, or none: there its byte reads as 0
module _ (tag : ℕ) (s : List ℕ) (may : optional tag ≡ true) where
  pub left-out-other : (tag_of s ≡ tag → ⊥) → left_out tag s ≡ true
  left-out-other h = rw (may, ne_eqb (tag_of s) tag h)

  not-zero : 0 ≡ tag → ⊥
  not-zero e = false≢true (rw (← e) at may)

  pub left-out-none : length s ≡ 0 → true ≡ left_out tag s
  unfolding number
  left-out-none e = rw (may, drop_of_length-le s {i = 0} (omega arith), ne_eqb 0 tag not-zero)

  pub left-out-byte : (length s ≡ 0 → ⊥) → not (eqb (get_or s 0 0) tag) ≡ left_out tag s
  left-out-byte h = rw (may, byte_at s 0 (omega (arith, h)))

-- A FIELD THAT MAY BE MISSING, missing or not
module _ (tag : ℕ) (s : List ℕ) where
  pub due-left-out : left_out tag s ≡ true → told_field (Ok 0) ≡ due_of tag s
  unfolding due_of
  due-left-out m = rw m

  pub due-there : left_out tag s ≡ false → field_of tag s ≡ due_of tag s
  unfolding field_of due_of
  due-there m = rw m

-- A field that is due and passes, missing or not: what stands after it, and that it lies within the bytes
pub due_passed : (tag : ℕ) (s : List ℕ) → left_out tag s ≡ false → due_faults tag s ≡ [] → Passed tag s
due_passed tag s m e = field_passed tag s (rw m at e)

pub due_after : (tag : ℕ) (s : List ℕ) → after_due tag s ≡ drop (due_size tag s) s
unfolding after_of
due_after tag s = go (left_out tag s)
  where
    go : (b : Bool) → cond b s (after_of s) ≡ drop (cond b 0 (field_size s)) s
    go true = refl
    go false = refl

pub due_within : (tag : ℕ) (s : List ℕ) → due_faults tag s ≡ [] → due_size tag s ≤ length s
due_within tag s e = go (left_out tag s) refl
  where
    go : (b : Bool) → left_out tag s ≡ b → cond b 0 (field_size s) ≤ length s
    go true m = omega arith
    go false m = (due_passed tag s m e).whole

-- ---- what the reader's answer tells

pub size_told : {n : ℕ} (tag : ℕ) (s : List ℕ) → told_field (Ok n) ≡ due_of tag s → (due_faults tag s ≡ []) × (n ≡ due_size tag s)
unfolding due_of
size_told {n} tag s e =
    let t = none_answered (due_faults tag s) (due_size tag s) n (sym e) in
    (t.0, sym t.1)

told_refused : (r : Refusal) (n : ℕ) (fs gs : Faults) → refused (told_refusal r) ≡ unless fs refused (answered n) → told_outcome (Err r) ≡ first_fault (fs ++ gs)
unfolding told_outcome first_fault
told_refused r n [] gs e = cc
told_refused r n (f ∷ fs) gs e = cc

pub refused_told : (r : Refusal) (tag : ℕ) (s : List ℕ) (gs : Faults) → told_field (Err r) ≡ due_of tag s
    → told_outcome (Err r) ≡ first_fault (due_faults tag s ++ gs)
unfolding due_of
refused_told r tag s gs e = told_refused r (due_size tag s) (due_faults tag s) gs e
