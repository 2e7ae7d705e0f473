-- THE RECORDS THAT ARE READ among the first of any list: one record more is read after the others, or skipped. Assumes nothing.
use Rattle.rules.proofs.Kit.{ℕ, ◌+◌, ◌/◌, ◌<◌, ◌≤◌, ◌≡◌, refl, sym, ap, ◌∙◌, Bool, true, false, cond, ◌&&◌, List, [], ◌∷◌, ◌++◌, append-nil, arith}
use Rattle.rules.proofs.Kit.{add-one, eqb, eqb-true, eqb-false, ltb, length, take, drop, get_or, length-append, take-append-drop, take-suc}
use Rattle.rules.specs.{Choice.below, Records.Listed, Records.listed_of, Slots.live_of}
use Rattle.rules.proofs.Slots.{live-none, live-left, live-kept, live-append}
use Rattle.bank.proofs.Listing.{nowhere}
use Rattle.live_slots.specs.Among.{among_of}

-- An id as it is read of a listed record
abbrev id_in : Listed → ℕ
id_in l = l.model.model_id

-- Those of a list that are read: the live ones, or all
abbrev pub read_of : Bool → List Listed → List Listed
read_of fewer ls = cond fewer (live_of ls) ls

-- So many of a bank are these
pub among_read : (many : ℕ) (bank : List ℕ) → among_of many bank ≡ read_of (ltb many (length bank / 47)) (listed_of bank)
unfolding among_of below
among_read many bank = refl

pub read_none : (fewer : Bool) → read_of fewer [] ≡ []
read_none true = live-none id_in
read_none false = refl

read_append : (fewer : Bool) (xs ys : List Listed) → read_of fewer (xs ++ ys) ≡ read_of fewer xs ++ read_of fewer ys
read_append true xs ys = live-append id_in xs ys
read_append false xs ys = refl

-- one alone
one_skipped : (fewer : Bool) (l : Listed) → (fewer && eqb (id_in l) 0) ≡ true → read_of fewer (l ∷ []) ≡ []
one_skipped true l e = live-left id_in l [] (eqb-true (id_in l) 0 e) ∙ live-none id_in
one_skipped false l e = absurd (let w : ◌≡◌ {A = ℕ} 0 1 = cc in omega arith)

one_kept : (fewer : Bool) (l : Listed) → (fewer && eqb (id_in l) 0) ≡ false → read_of fewer (l ∷ []) ≡ l ∷ []
one_kept true l e = live-kept id_in l [] (eqb-false (id_in l) 0 e) ∙ ap (λ (ls : List Listed). l ∷ ls) (live-none id_in)
one_kept false l e = refl

-- THE FIRST ARE NO MORE THAN ALL
pub read_first : (fewer : Bool) (i : ℕ) (ls : List Listed) → length (read_of fewer (take i ls)) ≤ length (read_of fewer ls)
read_first fewer i ls =
    let all = ap (λ (ks : List Listed). length (read_of fewer ks)) (sym (take-append-drop i ls)) in
    omega (arith, all, ap length (read_append fewer (take i ls) (drop i ls)), length-append (read_of fewer (take i ls)) (read_of fewer (drop i ls)))

-- ONE RECORD MORE
module _ (fewer : Bool) (ls : List Listed) (i : ℕ) (h : i < length ls) where
  one_more_lem : read_of fewer (take (i + 1) ls) ≡ read_of fewer (take i ls) ++ read_of fewer (get_or ls i nowhere ∷ [])
  one_more_lem = rw (add-one i, take-suc ls i nowhere h) (read_append fewer (take i ls) (get_or ls i nowhere ∷ []))

  pub more-skipped : (fewer && eqb (id_in (get_or ls i nowhere)) 0) ≡ true → read_of fewer (take (i + 1) ls) ≡ read_of fewer (take i ls)
  more-skipped e = one_more_lem ∙ ap (λ (ks : List Listed). read_of fewer (take i ls) ++ ks) (one_skipped fewer _ e) ∙ append-nil (read_of fewer (take i ls))

  pub more-kept : (fewer && eqb (id_in (get_or ls i nowhere)) 0) ≡ false → read_of fewer (take (i + 1) ls) ≡ read_of fewer (take i ls) ++ get_or ls i nowhere ∷ []
  more-kept e = one_more_lem ∙ ap (λ (ks : List Listed). read_of fewer (take i ls) ++ ks) (one_kept fewer _ e)
