-- Word and buffer of a call, from what its tests and the calls below it tell. Assumes nothing.
use Rattle.rules.proofs.Kit.{ℕ, ◌≡◌, refl, sym, ap, ◌∙◌, List, [], ◌∷◌, ◌++◌, arith}
use Rattle.rules.specs.{Refused.Fault, Refused.Faults, Refused.first_fault, Refused.told_refusal, Refused.told_outcome, Refused.Answer, Refused.refused}
use Rattle.rules.specs.{Refused.answered, Refused.unless, declared.refusal.Refusal.Refusal}
use Rattle.std.specs.Prelude.{Err}
use Rattle.endian_writing.specs.Put.{patched}
use Rattle.splice.proofs.Pieces.{patched_start}
use Rattle.export_checks.specs.Checks.{word_at, delivered, handed}

-- Two parts of a promise are one
pub both : {A B : Type 0} {a b : A} {x y : B} → a ≡ b → x ≡ y → ◌≡◌ {A = A × B} (a, x) (b, y)
both h k = rw (h, k)

-- What is put at a buffer's start is delivered
pub delivered_so : {after : List ℕ} (bytes out : List ℕ) → after ≡ patched out 0 bytes → (0, after) ≡ delivered bytes out
delivered_so bytes out h = rw (h, patched_start out bytes)

-- TESTS OF WHICH THE FIRST FAULT IS SEEN hand over its word
pub first_handed : {A : Type 0} {f : Fault} {gs : Faults} {w : ℕ} (bytes : A → List ℕ) (fs : Faults) (a : Answer A) (out : List ℕ)
    → fs ≡ f ∷ gs → w ≡ word_at 0 f → (w, out) ≡ handed bytes fs a out
unfolding handed
first_handed bytes fs a out e h = rw (e, h)

module _ {A : Type 0} (bytes : A → List ℕ) (fs : Faults) (a : Answer A) (out : List ℕ) where
  -- TESTS THAT REFUSED hand over their refusal, and those that passed leave it to the answer
  pub tests-refused : {w : ℕ} (r : Refusal) → told_outcome (Err r) ≡ first_fault fs → w ≡ word_at 0 (told_refusal r) → (w, out) ≡ handed bytes fs a out
  unfolding first_fault told_outcome
  tests-refused {w} r h k = go fs h
    where
      go : (gs : Faults) → told_outcome (Err r) ≡ first_fault gs → (w, out) ≡ handed bytes gs a out
      go [] i = absurd (let z : ◌≡◌ {A = ℕ} 0 1 = cc in omega arith)
      go (g ∷ gs) i = first_handed bytes (g ∷ gs) a out refl (k ∙ ap (word_at 0) (let s : told_refusal r ≡ g = cc in s))

  pub tests-passed : {t : Answer A} {p : ℕ × List ℕ} → fs ≡ [] → t ≡ a → p ≡ handed bytes [] t out → p ≡ handed bytes fs a out
  tests-passed e h k = k ∙ rw (h, e)

  -- AN ANSWER hands over its refusal, or is delivered
  pub answer-refused : {f : Fault} {w : ℕ} → fs ≡ [] → a ≡ refused f → w ≡ word_at 0 f → (w, out) ≡ handed bytes fs a out
  unfolding handed
  answer-refused e h k = rw (e, h, k)

  pub answer-delivered : {x : A} {p : ℕ × List ℕ} → fs ≡ [] → a ≡ answered x → p ≡ delivered (bytes x) out → p ≡ handed bytes fs a out
  unfolding handed
  answer-delivered e h k = rw (e, h) k

-- What a call below told: the first fault, or what is owed where there is none
pub record Told {A : Type 0} (t : Answer A) (fs : Faults) (a : A) : Type 0 where
  pub is : t ≡ unless fs refused (answered a)

module _ {A : Type 0} {t : Answer A} {fs : Faults} {a : A} (told : Told t fs a) where
  pub told_none : {b : A} → t ≡ answered b → fs ≡ []
  told_none {b} e = go fs (sym e ∙ told.is)
    where
      go : (gs : Faults) → answered b ≡ unless gs refused (answered a) → gs ≡ []
      go [] h = refl
      go (g ∷ gs) h = absurd (let z : ◌≡◌ {A = ℕ} 0 1 = cc in omega arith)

  -- WHERE IT REFUSED, more tests change nothing; where it answered, its answer is delivered
  pub told_refused : {B : Type 0} {f : Fault} {w : ℕ} (bytes : B → List ℕ) (gs : Faults) (b : Answer B) (out : List ℕ) → t ≡ refused f → w ≡ word_at 0 f
      → (w, out) ≡ handed bytes (fs ++ gs) b out
  told_refused {B} {f} {w} bytes gs b out e k = go fs (sym e ∙ told.is)
    where
      go : (hs : Faults) → refused f ≡ unless hs refused (answered a) → (w, out) ≡ handed bytes (hs ++ gs) b out
      go [] h = absurd (let z : ◌≡◌ {A = ℕ} 0 1 = cc in omega arith)
      go (g ∷ hs) h = first_handed bytes (g ∷ (hs ++ gs)) b out refl (k ∙ ap (word_at 0) (let s : f ≡ g = cc in s))

  pub told-delivered : {b : A} {p : ℕ × List ℕ} (bytes : A → List ℕ) (out : List ℕ) → t ≡ answered b → p ≡ delivered (bytes b) out
      → p ≡ handed bytes fs (answered a) out
  told-delivered {b} bytes out e k =
      let same : answered b ≡ answered a = sym e ∙ told.is ∙ rw (told_none e) in
      answer-delivered bytes fs (answered a) out (told_none e) (sym same) k
