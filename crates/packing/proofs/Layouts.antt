-- Numbers packed with no gap: reading what was packed, and packing what was read. Assumes nothing.
use Rattle.rules.proofs.Kit.{ℕ, ◌+◌, ◌^◌, ◌≤◌, ◌<◌, List, [], ◌∷◌, ◌++◌, append_assoc, ◌≡◌, refl, sym, ap, ◌∙◌, arith, length, take, drop, length-append}
use Rattle.rules.proofs.Kit.{length-take, length-drop, take-append-drop, drop_of_length-le, take_at, drop_at, drop-drop}
use Rattle.rules.specs.Bytes.{number, bytes_of, number_at, packed}
use Rattle.endian.proofs.Numbers.{Small, small_take, small_drop, number_bytes, bytes_number}
use Rattle.endian_writing.proofs.Bytes.{length_bytes}

-- Each number fits its width's bytes
abbrev pub Fitting : List (ℕ × ℕ) → Type 0
Fitting [] = Unit {0}
Fitting (f ∷ fs) = (f.1 < 256 ^ f.0) × Fitting fs

pub fitting_append : (fs gs : List (ℕ × ℕ)) → Fitting fs → Fitting gs → Fitting (fs ++ gs)
fitting_append [] gs p q = q
fitting_append (f ∷ fs) gs p q = (p.0, fitting_append fs gs p.1 q)

-- How many bytes the fields have together
abbrev pub widths : List (ℕ × ℕ) → ℕ
widths [] = 0
widths (f ∷ fs) = f.0 + widths fs

-- From a position on, bytes say each number in its turn
abbrev pub Says : List ℕ → ℕ → List (ℕ × ℕ) → Type 0
Says s at [] = Unit {0}
Says s at (f ∷ fs) = (number_at s at f.0 ≡ f.1) × Says s (at + f.0) fs

-- PACKED NUMBERS HAVE THE BYTES OF ALL FIELDS
pub length-packed : (fs : List (ℕ × ℕ)) → length (packed fs) ≡ widths fs
unfolding packed
length-packed [] = refl
length-packed (f ∷ fs) = rw (length-append, length_bytes, length-packed fs)

-- and some after others are packed after them
pub packed-append : (fs gs : List (ℕ × ℕ)) → packed (fs ++ gs) ≡ packed fs ++ packed gs
unfolding packed
packed-append [] gs = refl
packed-append (f ∷ fs) gs = rw (packed-append fs gs) (sym (append_assoc (bytes_of f.0 f.1) (packed fs) (packed gs)))

-- READING WHAT WAS PACKED, from a position on
pub packed_says : (fs : List (ℕ × ℕ)) (s : List ℕ) (at : ℕ) → Fitting fs → drop at s ≡ packed fs → Says s at fs
unfolding packed
packed_says [] s at fit e = tt
packed_says (f ∷ fs) s at fit e =
    let bytes = bytes_of f.0 f.1 in
    let long : length bytes ≡ f.0 = length_bytes f.0 f.1 in
    let part : take f.0 (drop at s) ≡ bytes = rw e (take_at bytes (packed fs) f.0 long) in
    let rest : drop (at + f.0) s ≡ packed fs = rw (← drop-drop f.0 at s, e) (drop_at bytes (packed fs) f.0 long) in
    (ap number part ∙ number_bytes f.0 f.1 fit.0, packed_says fs s (at + f.0) fit.1 rest)

-- a part that was read is written as it was
part_forth : (s : List ℕ) (w at : ℕ) → Small s → at + w ≤ length s → bytes_of w (number_at s at w) ≡ take w (drop at s)
part_forth s w at small h =
    let long : length (take w (drop at s)) ≡ w = simp (length-take, length-drop) (omega arith) in
    rw long at (bytes_number (take w (drop at s)) (small_take w (drop at s) (small_drop at s small)))

-- PACKING WHAT WAS READ, from a position on
pub says_packed : (fs : List (ℕ × ℕ)) (s : List ℕ) (at : ℕ) → Small s → Says s at fs → at + widths fs ≡ length s → packed fs ≡ drop at s
unfolding packed
says_packed [] s at small says e = sym (drop_of_length-le s {i = at} (omega arith))
says_packed (f ∷ fs) s at small says e =
    let h : at + f.0 + widths fs ≡ length s = omega arith in
    rw (← says.0, part_forth s f.0 at small (omega arith), says_packed fs s (at + f.0) small says.1 h, ← drop-drop f.0 at s)
    (take-append-drop f.0 (drop at s))
