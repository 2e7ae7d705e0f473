-- The records of a part of a bank: how many there are, which they are, and what two parts come to. Assumes nothing.
use Rattle.rules.proofs.Kit.{ℕ, zero, suc, ◌+◌, ◌-◌, ◌*◌, ◌/◌, ◌<◌, ◌≤◌, add-zero, zero-add, le_of_suc-le-suc, not-suc-le-zero, arith, ◌≡◌, refl, sym, ap, ◌∙◌}
use Rattle.rules.proofs.Kit.{Bool, true, false, List, [], ◌∷◌, ◌++◌, append_assoc, ltb-true, ltb-false, ltb, length, get_or, take, drop, set, length-append}
use Rattle.rules.proofs.Kit.{length-map, length-drop, take-append-drop, List·get_d-append, List·get_d-map, length-take-le, take-append-le, drop-append-le}
use Rattle.rules.proofs.Kit.{drop-append-add, drop-drop, get_or-append-add, ext_get_or, set_at, take_all}
use Rattle.rules.specs.Records.{Listed, listed, listed_of, model_of, model_at}
use Rattle.bank.proofs.Listing.{length-listed, listed_at, nowhere}
use Rattle.kernel_scan.specs.Places.{onward, placed_from}

-- A PART'S RECORDS: as many, each so many places further on
pub length-placed : (first : ℕ) (part : List ℕ) → length (placed_from first part) ≡ length part / 47
unfolding placed_from
length-placed first part = length-map (listed_of part) (onward first) ∙ length-listed part

-- below the end no default is looked at
get_d_any : (ls : List Listed) (i : ℕ) (d e : Listed) → i < length ls → get_or ls i d ≡ get_or ls i e
get_d_any [] i d e h = absurd (not-suc-le-zero h)
get_d_any (l ∷ ls) zero d e h = refl
get_d_any (l ∷ ls) (suc i) d e h = get_d_any ls i d e (le_of_suc-le-suc h)

get_d_moved : (first : ℕ) (part : List ℕ) (i : ℕ) → i < length part / 47
    → get_or (placed_from first part) i (onward first nowhere) ≡ listed (first + i) (model_at part i)
unfolding placed_from
get_d_moved first part i h = List·get_d-map (onward first) (listed_of part) i nowhere ∙ ap (onward first) (listed_at part i nowhere h)

pub get_d_placed : (first : ℕ) (part : List ℕ) (i : ℕ) (d : Listed) → i < length part / 47
    → get_or (placed_from first part) i d ≡ listed (first + i) (model_at part i)
get_d_placed first part i d h =
    get_d_any (placed_from first part) i d (onward first nowhere) (rw (length-placed first part) h) ∙ get_d_moved first part i h

-- THE WHOLE BANK IS THE PART WHOSE FIRST RECORD HAS PLACE 0
pub placed_all : (bank : List ℕ) → placed_from 0 bank ≡ listed_of bank
placed_all bank =
    ext_get_or nowhere (placed_from 0 bank) (listed_of bank) (length-placed 0 bank ∙ sym (length-listed bank))
    λ i h. let k : i < length bank / 47 = rw length-placed at h in
    rw (get_d_placed 0 bank i nowhere k, listed_at bank i nowhere k, zero-add)

-- ---- two parts

module _ (a b : List ℕ) (n : ℕ) (whole : length a ≡ 47 * n) where
  model-first : (i : ℕ) → i < n → model_at (a ++ b) i ≡ model_at a i
  model-first i h =
      rw (drop-append-le (47 * i) a b (omega arith), take-append-le 47 (drop (47 * i) a) b (simp length-drop (omega arith)))

  model-second : (j : ℕ) → model_at (a ++ b) (n + j) ≡ model_at b j
  model-second j =
      let e : 47 * (n + j) ≡ length a + 47 * j = omega arith in
      rw (e, drop-append-add a b (47 * j))

  -- A PART AFTER WHOLE RECORDS: its places go on from theirs
  pub placed-append : (first : ℕ) → placed_from first (a ++ b) ≡ placed_from first a ++ placed_from (first + n) b
  placed-append first =
      ext_get_or nowhere (placed_from first (a ++ b)) (placed_from first a ++ placed_from (first + n) b)
      (simp (length-append, length-placed) (omega arith))
      λ i h. let k : i < length (a ++ b) / 47 = rw length-placed at h in
      rw (get_d_placed first (a ++ b) i nowhere k) (at i (rw length-append at k) (ltb i n) refl)
    where
      m : length (placed_from first a) ≡ n
      m = length-placed first a ∙ omega arith

      at : (i : ℕ) → i < (length a + length b) / 47 → (t : Bool) → ltb i n ≡ t
          → listed (first + i) (model_at (a ++ b) i) ≡ get_or (placed_from first a ++ placed_from (first + n) b) i nowhere
      at i k true e =
          let h : i < n = ltb-true i n e in
          rw (
            List·get_d-append (placed_from first a) (placed_from (first + n) b) nowhere i (rw m h),
            get_d_placed first a i nowhere (omega arith),
            model-first i h,
          )
      at i k false e =
          let h : n ≤ i = ltb-false i n e in
          let x : i ≡ n + (i - n) = omega arith in
          let y : i ≡ length (placed_from first a) + (i - n) = rw m x in
          let g : get_or (placed_from first a ++ placed_from (first + n) b) i nowhere ≡ listed (first + n + (i - n)) (model_at b (i - n)) =
          ap (λ z. get_or (placed_from first a ++ placed_from (first + n) b) z nowhere) y
          ∙ get_or-append-add (placed_from first a) (placed_from (first + n) b) (i - n) nowhere
          ∙ get_d_placed (first + n) b (i - n) nowhere (omega arith) in
          let f : first + i ≡ first + n + (i - n) = omega arith in
          let w : model_at (a ++ b) i ≡ model_at b (i - n) = ap (model_at (a ++ b)) x ∙ model-second (i - n) in
          rw (f, w) (sym g)

-- ONE RECORD
pub placed_one : (first : ℕ) (part : List ℕ) → length part ≡ 47 → placed_from first part ≡ listed first (model_of part) ∷ []
placed_one first part e =
    ext_get_or nowhere (placed_from first part) (listed first (model_of part) ∷ []) (rw (length-placed, e))
    λ i h. let k : i < 1 = rw (length-placed, e) at h in
    let z : i ≡ 0 = omega arith in
    rw (z, get_d_placed first part 0 nowhere (rw e (omega arith)), add-zero, take_all 47 part (omega arith))

-- ---- another record in the stead of one

module _ (bank : List ℕ) (place : ℕ) (inside : place < length bank / 47) where
  before-length : length (take (47 * place) bank) ≡ 47 * place
  before-length = length-take-le (47 * place) bank (omega arith)

  here-length : length (take 47 (drop (47 * place) bank)) ≡ 47
  here-length = length-take-le 47 (drop (47 * place) bank) (simp length-drop (omega arith))

  -- a bank: the records before a place, the one there, and those after it
  pub listed-split : listed_of bank ≡ placed_from 0 (take (47 * place) bank) ++ listed place (model_at bank place)
      ∷ placed_from (place + 1) (drop (47 * place + 47) bank)
  listed-split =
      let r = drop (47 * place) bank in
      let one : placed_from place (take 47 r) ≡ listed place (model_at bank place) ∷ [] = placed_one place (take 47 r) here-length in
      let rest : placed_from place r ≡ listed place (model_at bank place) ∷ placed_from (place + 1) (drop (47 * place + 47) bank) =
      ap (placed_from place) (sym (take-append-drop 47 r)) ∙ placed-append (take 47 r) (drop 47 r) 1 here-length place
      ∙ rw (one, drop-drop 47 (47 * place) bank) in
      sym (placed_all bank) ∙ ap (placed_from 0) (sym (take-append-drop (47 * place) bank))
      ∙ placed-append (take (47 * place) bank) r place before-length 0 ∙ rw (zero-add, rest)

  -- A BANK WITH ANOTHER RECORD AT A PLACE: the part before it, the record's bytes, the part after it
  pub placed-set : (stand : List ℕ) → length stand ≡ 47
      → set (listed_of bank) place (listed place (model_of stand)) ≡ placed_from 0 (take (47 * place) bank) ++ placed_from place stand
      ++ placed_from (place + 1) (drop (47 * place + 47) bank)
  placed-set stand e =
      let before = placed_from 0 (take (47 * place) bank) in
      let after = placed_from (place + 1) (drop (47 * place + 47) bank) in
      ap (λ ls. set ls place (listed place (model_of stand))) listed-split
      ∙ set_at before (listed place (model_at bank place)) after (listed place (model_of stand)) place
      (length-placed 0 (take (47 * place) bank) ∙ rw before-length (omega arith))
      ∙ rw (placed_one place stand e, append_assoc)
