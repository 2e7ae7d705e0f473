-- What the arguments ask, digit by digit. Assumes nothing.
use Rattle.rules.proofs.Kit.{ℕ, suc, ◌+◌, ◌*◌, ◌-◌, ◌≤◌, ◌<◌, ◌≡◌, refl, sym, ap, ◌∙◌, Bool, true, false, List, [], ◌∷◌, ◌⊎◌, inl, inr, none, arith, eq-eqb}
use Rattle.rules.proofs.Kit.{eqb-true, eqb, cond, ◌&&◌, length, get_or, drop, drop-cons, drop-length}
use Rattle.std.specs.Cmp.Lexicographic.{pointwise}
use Rattle.rules.specs.{Choice.below, Choice.equal, Choice.pick, Text.text}
use Rattle.rules.proofs.{Orders.lt_or_le, Choices.below-yes, Choices.below-no, Choices.equal-yes, Choices.equal-no}
use Rattle.program_question.specs.DeskQuestion.{number_after, id_or_unclear, about_of, in_words, same_text, question_of}
use Rattle.program_question.specs.{declared.DeskQuestion.DeskQuestion, declared.DeskQuestion.TheVariants.Lines, declared.DeskQuestion.TheVariants.Words}
use Rattle.std.specs.Prelude.{None, Some}
use Rattle.std.specs.Prelude as declared

-- A DIGIT goes to the end of the number
pub digit_next : (n b : ℕ) (bs : List ℕ) → 48 ≤ b → b ≤ 57 → number_after n (b ∷ bs) ≡ number_after (n * 10 + (b - 48)) bs
unfolding number_after
digit_next n b bs low high = below-no _ _ _ _ low ∙ below-no _ _ _ _ high

-- ANOTHER BYTE ends it
pub no_digit : (n b : ℕ) (bs : List ℕ) → (b < 48) ⊎ (57 < b) → number_after n (b ∷ bs) ≡ none
unfolding number_after
no_digit n b bs (inl h) = below-yes _ _ _ _ h
no_digit n b bs (inr h) = below-no _ _ _ _ (omega arith) ∙ below-yes _ _ _ _ h

-- TOO HIGH stays too high, whatever follows
pub over : (n : ℕ) (bs : List ℕ) → 4294967295 < n → id_or_unclear (number_after n bs) ≡ None
unfolding number_after id_or_unclear
over n [] h = below-yes _ _ _ _ h
over n (b ∷ bs) h = go (lt_or_le b 48) (lt_or_le 57 b) (over (n * 10 + (b - 48)) bs (omega arith))
  where
    go :
        (b < 48) ⊎ (48 ≤ b) →
        (57 < b) ⊎ (b ≤ 57) →
        id_or_unclear (number_after (n * 10 + (b - 48)) bs) ≡ None →
        id_or_unclear (number_after n (b ∷ bs)) ≡ None
    go (inl k) _ _ = ap id_or_unclear (no_digit n b bs (inl k))
    go (inr j) (inl k) _ = ap id_or_unclear (no_digit n b bs (inr k))
    go (inr j) (inr k) e = ap id_or_unclear (digit_next n b bs j k) ∙ e

-- A TEXT IS ITSELF, and no other
pub same_self : (s : List ℕ) → same_text s s ≡ true
unfolding same_text
same_self [] = refl
same_self (b ∷ bs) = rw (eq-eqb b b refl) (same_self bs)

pub differ : false ≡ true → ⊥
differ e = let z : ◌≡◌ {A = ℕ} 0 1 = ap one e in omega arith
  where
    one : Bool → ℕ
    one true = 1
    one false = 0

pub same_only : (s t : List ℕ) → same_text s t ≡ true → s ≡ t
unfolding same_text
same_only [] [] e = refl
same_only [] (b ∷ bs) e = absurd (differ e)
same_only (a ∷ rest) [] e = absurd (differ e)
same_only (a ∷ rest) (b ∷ bs) e = go (eqb a b) refl (same_only rest bs) e
  where
    go :
        (t : Bool) →
        eqb a b ≡ t →
        (same_text rest bs ≡ true → rest ≡ bs) →
        pick t (λ _. same_text rest bs) (λ _. false) ≡ true →
        (a ∷ rest) ≡ (b ∷ bs)
    go true h same k = rw (eqb-true a b h, same k)
    go false h same k = absurd (differ k)

-- WHAT THE TEST OF TWO TEXTS TELLS is whether they are the same
pub same_pointwise : (s t : List ℕ) → pointwise eqb s t ≡ same_text s t
unfolding same_text
same_pointwise [] [] = refl
same_pointwise [] (b ∷ bs) = refl
same_pointwise (a ∷ rest) [] = refl
same_pointwise (a ∷ rest) (b ∷ bs) = go (eqb a b) (same_pointwise rest bs)
  where
    go : (t : Bool) → pointwise eqb rest bs ≡ same_text rest bs → (t && pointwise eqb rest bs) ≡ pick t (λ _. same_text rest bs) (λ _. false)
    go true e = e
    go false e = refl

-- WHAT IS LEFT of an argument, from a place on, after digits that said a number
unfoldable pub left : List ℕ → ℕ → ℕ → declared.Option DeskQuestion
left s i n = id_or_unclear (number_after n (drop i s))

pub left_all : (s : List ℕ) → 0 < length s → about_of s ≡ left s 0 0
unfolding left about_of
left_all [] h = absurd (omega arith)
left_all (b ∷ bs) h = refl

pub left_none : (s : List ℕ) → length s ≡ 0 → about_of s ≡ None
unfolding about_of
left_none [] h = refl
left_none (b ∷ bs) h = absurd (omega arith)

pub left_end : (s : List ℕ) (i n : ℕ) → i ≡ length s → n ≤ 4294967295 → left s i n ≡ Some (Lines n)
unfolding left number_after id_or_unclear
left_end s i n e k = rw (e, drop-length s) (below-no _ _ _ _ k)

module _ (s : List ℕ) (i n : ℕ) (inside : i < length s) where
  pub left-stops : (get_or s i 0 < 48) ⊎ (57 < get_or s i 0) → left s i n ≡ None
  unfolding left id_or_unclear
  left-stops h =
      ap (λ (l : List ℕ). id_or_unclear (number_after n l)) (drop-cons s i 0 inside)
      ∙ ap id_or_unclear (no_digit n (get_or s i 0) (drop (suc i) s) h)

  pub left-next : 48 ≤ get_or s i 0 → get_or s i 0 ≤ 57 → left s i n ≡ left s (i + 1) (n * 10 + (get_or s i 0 - 48))
  unfolding left
  left-next low high =
      let next : suc i ≡ i + 1 = omega arith in
      rw (← next)
      (ap (λ (l : List ℕ). id_or_unclear (number_after n l)) (drop-cons s i 0 inside)
      ∙ ap id_or_unclear (digit_next n (get_or s i 0) (drop (suc i) s) low high))

  pub left_over : 48 ≤ get_or s i 0 → get_or s i 0 ≤ 57 → 4294967295 < n * 10 + (get_or s i 0 - 48) → left s i n ≡ None
  unfolding left
  left_over low high k = left-next low high ∙ over (n * 10 + (get_or s i 0 - 48)) (drop (i + 1) s) k

-- WHAT THE ARGUMENTS ASK, by what the first says and how many there are
module _ (count : ℕ) (first second : List ℕ) where
  pub ask-none : about_of first ≡ None → question_of count first second ≡ None
  unfolding question_of in_words equal
  ask-none e = rw e (go (eqb count 2) (eqb count 3) (same_text second (text "words")))
    where
      go : (a b c : Bool) → ◌≡◌ {A = declared.Option DeskQuestion} (cond a None (cond b (pick c (λ _. None) (λ _. None)) None)) None
      go true b c = refl
      go false true true = refl
      go false true false = refl
      go false false c = refl

  pub ask-alone : {id : ℕ} → count ≡ 2 → about_of first ≡ Some (Lines id) → question_of count first second ≡ Some (Lines id)
  unfolding question_of
  ask-alone h e = equal-yes _ _ _ _ h ∙ e

  pub ask-others : (count ≡ 2 → ⊥) → (count ≡ 3 → ⊥) → question_of count first second ≡ None
  unfolding question_of
  ask-others h k = equal-no _ _ _ _ h ∙ equal-no _ _ _ _ k

  ask-three : {b : Bool} → count ≡ 3 → b ≡ pointwise eqb second (text "words")
      → question_of count first second ≡ pick b (λ _. in_words (about_of first)) (λ _. None)
  unfolding question_of
  ask-three h e =
      equal-no _ _ _ _ (λ e. omega arith) ∙ equal-yes _ _ _ _ h
      ∙ ap (λ (b : Bool). pick b (λ _. in_words (about_of first)) (λ _. None)) (sym (e ∙ same_pointwise second (text "words")))

  pub ask-words : {id : ℕ} → count ≡ 3 → true ≡ pointwise eqb second (text "words") → about_of first ≡ Some (Lines id)
      → question_of count first second ≡ Some (Words id)
  unfolding in_words
  ask-words h e k = ask-three h e ∙ ap in_words k

  pub ask-unclear : count ≡ 3 → false ≡ pointwise eqb second (text "words") → question_of count first second ≡ None
  ask-unclear h e = ask-three h e

-- ROWS: the lowest and the highest id, zeros in front, words; one too high, no digit, another byte, another word, one argument too many
asked_rows :
    (question_of 2 (text "0") [] ≡ Some (Lines 0))
    × (question_of 2 (text "4294967295") [] ≡ Some (Lines 4294967295))
    × (question_of 2 (text "0042") [] ≡ Some (Lines 42))
    × (question_of 3 (text "1") (text "words") ≡ Some (Words 1))
    × (question_of 2 (text "4294967296") [] ≡ None)
    × (question_of 2 [] [] ≡ None)
    × (question_of 2 (text "-1") [] ≡ None)
    × (question_of 2 (text "1:") [] ≡ None)
    × (question_of 3 (text "1") (text "word") ≡ None)
    × (question_of 4 (text "1") (text "words") ≡ None)
    × (question_of 1 [] [] ≡ None)
unfolding question_of about_of id_or_unclear number_after in_words same_text text below equal
asked_rows = (refl, refl, refl, refl, refl, refl, refl, refl, refl, refl, refl)
