-- Whether a slot is clear, by the numbers that its parts say. Assumes nothing.
use Rattle.rules.proofs.Kit.{ℕ, zero, suc, ◌+◌, ◌*◌, ◌≤◌, ◌≡◌, refl, sym, ap, ◌∙◌, Bool, true, false, List, [], ◌∷◌, arith, add-zero, eq-eqb, length, take}
use Rattle.rules.proofs.Kit.{drop, take-take, drop-drop, drop_of_length-le, length-drop, length-take-le}
use Rattle.rules.specs.{Bytes.number, Bytes.number_at, Records.record_part, Slots.is_blank}
use Rattle.rules.proofs.Slots.{part_blank}

-- BYTES ARE BLANK where the first of them say 0 and the others are blank
blank_front : (n : ℕ) (s : List ℕ) → number (take n s) ≡ 0 → is_blank (drop n s) ≡ true → is_blank s ≡ true
unfolding number is_blank
blank_front zero s e f = f
blank_front (suc n) [] e f = refl
blank_front (suc n) (b ∷ bs) e f =
    let low : b ≡ 0 = omega arith in
    rw (eq-eqb b 0 low, blank_front n bs (omega arith) f)

-- where they are no more than those
blank_short : (n : ℕ) (s : List ℕ) → length s ≤ n → number (take n s) ≡ 0 → is_blank s ≡ true
unfolding is_blank
blank_short n s h e = blank_front n s e (rw (drop_of_length-le s h))

-- 47 OF THEM, by six eights: the last two share a byte
six_blank : (s : List ℕ) → length s ≡ 47 → number (take 8 s) ≡ 0 → number (take 8 (drop 8 s)) ≡ 0 → number (take 8 (drop 16 s)) ≡ 0
    → number (take 8 (drop 24 s)) ≡ 0 → number (take 8 (drop 32 s)) ≡ 0 → number (take 8 (drop 39 s)) ≡ 0 → is_blank s ≡ true
six_blank s long a b c d e f =
    let end : is_blank (drop 39 s) ≡ true = blank_short 8 (drop 39 s) (simp length-drop (omega arith)) f in
    let last : number (take 7 (drop 40 s)) ≡ 0 = rw (drop-drop 1 39 s) at (part_blank 1 7 (drop 39 s) end) in
    let after : is_blank (drop 40 s) ≡ true = blank_short 7 (drop 40 s) (simp length-drop (omega arith)) last in
    let on : (k : ℕ) → number (take 8 (drop k s)) ≡ 0 → is_blank (drop (k + 8) s) ≡ true → is_blank (drop k s) ≡ true =
    λ k z rest. blank_front 8 (drop k s) z (rw (drop-drop 8 k s) rest) in
    on 0 a (on 8 b (on 16 c (on 24 d (on 32 e after))))

-- ---- the parts of a slot, read in the bank

-- a part of a slot is that part of the bank
inside : (k w n : ℕ) (l : List ℕ) → k + w ≤ n → take w (drop k (take n l)) ≡ take w (drop k l)
inside zero w n l h = take-take w n l (omega arith)
inside (suc k) w zero l h = absurd (omega arith)
inside (suc k) w (suc n) [] h = refl
inside (suc k) w (suc n) (b ∷ bs) h = inside k w n bs (omega arith)

module _ (bank : List ℕ) (place : ℕ) where
  -- Eight bytes of the slot, at an offset
  part_read : (k n : ℕ) → k + 8 ≤ 47 → n ≡ number_at bank (47 * place + k) 8 → number (take 8 (drop k (record_part bank place))) ≡ n
  part_read k n h its = ap number (inside k 8 47 (drop (47 * place) bank) h) ∙ rw (drop-drop k (47 * place) bank) (sym its)

  front_read : (n : ℕ) → n ≡ number_at bank (47 * place) 8 → number (take 8 (record_part bank place)) ≡ n
  front_read n its = part_read 0 n (omega arith) (rw add-zero its)

  -- ONE BYTE IS SET where eight of them say anything but 0
  a_set : (k n : ℕ) → number (take 8 (drop k (record_part bank place))) ≡ n → (n ≡ 0 → ⊥) → false ≡ is_blank (record_part bank place)
  a_set k n its other = go (is_blank (record_part bank place)) refl
    where
      go : (t : Bool) → is_blank (record_part bank place) ≡ t → false ≡ t
      go false f = refl
      go true f = absurd (other (sym its ∙ part_blank k 8 (record_part bank place) f))

  pub part_set : (k : ℕ) {n : ℕ} → k + 8 ≤ 47 → n ≡ number_at bank (47 * place + k) 8 → (n ≡ 0 → ⊥) → false ≡ is_blank (record_part bank place)
  part_set k {n} h its other = a_set k n (part_read k n h its) other

  pub front_set : {n : ℕ} → n ≡ number_at bank (47 * place) 8 → (n ≡ 0 → ⊥) → false ≡ is_blank (record_part bank place)
  front_set {n} its other = a_set 0 n (front_read n its) other

  -- NONE IS where the six say 0
  pub parts_clear : {a b c d e f : ℕ} → 47 * place + 47 ≤ length bank → a ≡ number_at bank (47 * place) 8 → b ≡ number_at bank (47 * place + 8) 8
      → c ≡ number_at bank (47 * place + 16) 8 → d ≡ number_at bank (47 * place + 24) 8 → e ≡ number_at bank (47 * place + 32) 8
      → f ≡ number_at bank (47 * place + 39) 8 → a ≡ 0 → b ≡ 0 → c ≡ 0 → d ≡ 0 → e ≡ 0 → f ≡ 0 → true ≡ is_blank (record_part bank place)
  parts_clear {a} {b} {c} {d} {e} {f} room pa pb pc pd pe pf za zb zc zd ze zf =
      sym (six_blank (record_part bank place) (length-take-le 47 (drop (47 * place) bank) (simp length-drop (omega arith))) (front_read a pa ∙ za)
      (part_read 8 b (omega arith) pb ∙ zb) (part_read 16 c (omega arith) pc ∙ zc) (part_read 24 d (omega arith) pd ∙ zd)
      (part_read 32 e (omega arith) pe ∙ ze) (part_read 39 f (omega arith) pf ∙ zf))
