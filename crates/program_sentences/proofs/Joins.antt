-- Sentences as they are put together, piece by piece. Assumes nothing.
use Rattle.rules.proofs.Kit.{ℕ, zero, suc, ◌+◌, ◌≤◌, ◌<◌, ◌≡◌, refl, sym, ap, ◌∙◌, List, [], ◌∷◌, ◌++◌, map, append-nil, append_assoc, add-one, arith}
use Rattle.rules.proofs.Kit.{length, take, some, Bool, true, false, eq-eqb, ne_eqb}
use Rattle.rules.specs.{Text.text, Numbers.Entry, Numbers.Boundary, Numbers.told_entry, Printed.entries_of, Phrases.sentence, Words.fall_words}
use Rattle.rules.specs.{Words.price_words, Words.unsearched_words, Words.off_words, Words.on_words, Words.searched_words}
use Rattle.rules.specs.{Words.lever_words, Words.levers_words, declared.boundary.Requirement.Requirement}
use Rattle.splice.specs.Placed.{placed}
use Rattle.splice.proofs.Pieces.{Written, written, written_none, written_then, promised_as}
use Rattle.rules.proofs.Choices.{equal-yes, equal-no}

-- A SENTENCE ENDS ITS LINE: its last words and the line's end stand in one piece
ends_line : (s t : List ℕ) → s ++ sentence t ≡ sentence (s ++ t)
unfolding sentence
ends_line s t = sym (append_assoc s t (10 ∷ []))

-- Why the price was not searched
pub unsearched_joins : (why : List ℕ) → text "Price alone: not searched, since " ++ why ++ sentence (text ".") ≡ unsearched_words why
unfolding unsearched_words
unsearched_joins why = ends_line (text "Price alone: not searched, since " ++ why) (text ".")

-- ---- the first levers, those still to come

-- Their entries
abbrev pub entries : ℕ → List Requirement → List Entry
entries n ls = take n (map told_entry ls)

-- ONE IS TAKEN
entries_next : (n m : ℕ) {ls rest : List Requirement} (l : Requirement) → m + 1 ≡ n → ls ≡ l ∷ rest → entries n ls ≡ told_entry l ∷ entries m rest
entries_next n m l e p = rw (← e, add-one m, p)

-- NONE IS LEFT
entries_end : (n : ℕ) (ls : List Requirement) → (0 < n → length ls ≡ 0) → entries n ls ≡ []
entries_end zero ls h = refl
entries_end (suc n) [] h = refl
entries_end (suc n) (l ∷ ls) h = absurd (let z : suc (length ls) ≡ 0 = h (omega arith) in omega arith)

-- THE PRICE'S SENTENCE is that of the first lever which is it: one that is not is passed by
module _ (n m : ℕ) {ls rest : List Requirement} (l : Requirement) (e : m + 1 ≡ n) (p : ls ≡ l ∷ rest) where
  pub price_found : l.lever ≡ 3 → price_words (entries n ls) ≡ fall_words (told_entry l)
  unfolding price_words
  price_found is = ap price_words (entries_next n m l e p) ∙ equal-yes l.lever 3 _ _ is

  pub price_passed : (l.lever ≡ 3 → ⊥) → price_words (entries n ls) ≡ price_words (entries m rest)
  unfolding price_words
  price_passed other = ap price_words (entries_next n m l e p) ∙ equal-no l.lever 3 _ _ other

pub price_none : (n : ℕ) (ls : List Requirement) → (0 < n → length ls ≡ 0) → price_words (entries n ls) ≡ price_words []
price_none n ls h = ap price_words (entries_end n ls h)

-- SENTENCES ARE WRITTEN, all but those still to come
pub record Begun (d : List ℕ) (at : ℕ) (all rest e : List ℕ) (next : ℕ) : Type 0 where
  pub words : List ℕ
  pub done : Written d at words e next
  pub whole : words ++ rest ≡ all

pub begun : (d : List ℕ) (at : ℕ) (all : List ℕ) → at ≤ length d → Begun d at all all d at
begun d at all h = record { words = []; done = written_none d at h; whole = refl }

module _ {d e : List ℕ} {at next : ℕ} {all : List ℕ} (n : ℕ) (ls : List Requirement) (b : Begun d at all (levers_words (entries n ls)) e next) where
  pub begun_more : (m : ℕ) {last : ℕ} {f : List ℕ} {rest : List Requirement} (l : Requirement) → m + 1 ≡ n → ls ≡ l ∷ rest
      → some (last, f) ≡ placed e next (lever_words (told_entry l)) → Begun d at all (levers_words (entries m rest)) f last
  unfolding levers_words
  begun_more m {last} {f} {rest} l p q put = record {
    words = b.words ++ lever_words (told_entry l);
    done = written_then b.done (written _ _ _ put);
    whole = append_assoc b.words (lever_words (told_entry l)) (levers_words (entries m rest)) ∙ ap (λ (s : List ℕ). b.words ++ s) (sym (ap levers_words (entries_next n m l p q))) ∙ b.whole;
  }

  pub begun_all : (0 < n → length ls ≡ 0) → some (next, e) ≡ placed d at all
  unfolding levers_words
  begun_all h =
      promised_as b.done (sym (append-nil b.words) ∙ ap (λ (s : List ℕ). b.words ++ s) (sym (ap levers_words (entries_end n ls h))) ∙ b.whole)

-- ---- all that was searched

-- Of a model that is off
pub off_none : (b : Boundary) → b.count ≡ 0
    → unsearched_words (text "the model is switched off") ++ sentence (text "Switched on, it would still not be chosen.") ≡ off_words b
unfolding off_words
off_none b p = rw (eq-eqb b.count 0 p)

pub off_some : (b : Boundary) → (b.count ≡ 0 → ⊥)
    → unsearched_words (text "the model is switched off") ++ levers_words (entries_of b) ≡ off_words b
unfolding off_words
off_some b p = rw (ne_eqb b.count 0 p)

-- Of one that is on
pub on_none : (b : Boundary) → b.count ≡ 0
    → price_words (entries_of b) ++ sentence (text "Nor would its quality, latency or risk ceiling alone.") ≡ on_words b
unfolding on_words
on_none b p = rw (eq-eqb b.count 0 p)

pub on_some : (b : Boundary) → (b.count ≡ 0 → ⊥) → price_words (entries_of b) ++ levers_words (entries_of b) ≡ on_words b
unfolding on_words
on_some b p = rw (ne_eqb b.count 0 p)

-- Whichever it is
pub searched_off : {off : Bool} (b : Boundary) → off ≡ true → off_words b ≡ searched_words off b
unfolding searched_words
searched_off b p = rw p

pub searched_on : {off : Bool} (b : Boundary) → off ≡ false → on_words b ≡ searched_words off b
unfolding searched_words
searched_on b p = rw p
