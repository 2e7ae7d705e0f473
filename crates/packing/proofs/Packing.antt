-- An array that is filled field by field holds the packed numbers. Assumes nothing.
use Rattle.rules.proofs.Kit.{ℕ, suc, zero, ◌+◌, ◌≤◌, ◌/◌, ◌%◌, List, [], ◌∷◌, ◌++◌, append_assoc, append-nil, ◌≡◌, refl, ap, ◌∙◌, arith, zero-add}
use Rattle.rules.proofs.Kit.{length, take, drop, length-take, drop_of_length-le, take-append-add, take-append-le, take_all}
use Rattle.rules.specs.Bytes.{bytes_of, packed, filled}
use Rattle.endian_writing.specs.Put.{patched}
use Rattle.endian_writing.proofs.{Bytes.length_bytes, Stored.patch_join, Stored.length-patched}
use Rattle.packing.specs.Tight.{Tight}
use Rattle.packing.proofs.Layouts.{widths, length-packed, packed-append}

-- ---- by one write for each field

-- what is filled in is a patch at 0
filled_patch : (bs z : List ℕ) → filled bs z ≡ patched z 0 bs
unfolding filled patched
filled_patch bs z = rw zero-add

-- An array that starts as z, with some fields filled in
pub record Laid (z : List ℕ) (fs : List (ℕ × ℕ)) (d : List ℕ) : Type 0 where
  pub is : d ≡ filled (packed fs) z

-- NONE AT FIRST
pub laid_none : (z : List ℕ) → Laid z [] z
unfolding filled packed
laid_none z = record { is = refl }

-- ONE MORE, where the fields so far end
pub laid_more : {z d e : List ℕ} {fs : List (ℕ × ℕ)} → Laid z fs d → (at w v : ℕ) → e ≡ patched d at (bytes_of w v) → widths fs ≡ at → at ≤ length z
    → Laid z (fs ++ (w, v) ∷ []) e
unfolding packed
laid_more {z} {d} {e} {fs} l at w v q ends room =
    let long : length (packed fs) ≡ at = length-packed fs ∙ ends in
    let place : 0 + length (packed fs) ≡ at = omega arith in
    let join : patched (patched z 0 (packed fs)) at (bytes_of w v) ≡ patched z 0 (packed fs ++ bytes_of w v) =
    rw place at (patch_join z 0 (packed fs) (bytes_of w v) (omega arith)) in
    record {
      is = rw (
        q,
        l.is,
        filled_patch (packed fs) z,
        packed-append fs ((w, v) ∷ []),
        append-nil (bytes_of w v),
        filled_patch (packed fs ++ bytes_of w v) z,
        join,
      );
    }

-- ALL AT LAST: the array holds the packed numbers
pub laid_all : {z d : List ℕ} {fs : List (ℕ × ℕ)} → Laid z fs d → widths fs ≡ length z → d ≡ packed fs
unfolding filled
laid_all {z} {d} {fs} l ends =
    rw (l.is, drop_of_length-le z {i = length (packed fs)} (omega (arith, length-packed fs))) (append-nil (packed fs))

-- ---- by words of eight bytes, each of which the next covers from its width on

-- the lowest bytes of a number are those of fewer
take_bytes : (w k n : ℕ) → w ≤ k → take w (bytes_of k n) ≡ bytes_of w n
unfolding bytes_of
take_bytes zero k n h = refl
take_bytes (suc w) zero n h = absurd (omega arith)
take_bytes (suc w) (suc k) n h = ap (λ bs. n % 256 ∷ bs) (take_bytes w k (n / 256) (omega arith))

-- what a word leaves up to its width
word_leaves : (d : List ℕ) (at w v : ℕ) → w ≤ 8 → at + 8 ≤ length d → take (at + w) (patched d at (bytes_of 8 v)) ≡ take at d ++ bytes_of w v
unfolding patched
word_leaves d at w v h room =
    let long : length (take at d) ≡ at = simp length-take (omega arith) in
    let part : take (at + w) (take at d ++ (bytes_of 8 v ++ drop (at + length (bytes_of 8 v)) d)) ≡ take at d
    ++ take w (bytes_of 8 v ++ drop (at + length (bytes_of 8 v)) d) =
    rw long at (take-append-add (take at d) (bytes_of 8 v ++ drop (at + length (bytes_of 8 v)) d) w) in
    part ∙ rw (take-append-le w (bytes_of 8 v) _ (omega (arith, length_bytes 8 v)), take_bytes w 8 v h)

-- Bytes that are written up to a position; the fields that are left stand there next, and make these fields in all
pub record Words (size at : ℕ) (left fs : List (ℕ × ℕ)) (d : List ℕ) : Type 0 where
  pub long : length d ≡ size
  pub tight : Tight at left size
  pub is : take at d ++ packed left ≡ packed fs

-- NONE AT FIRST
pub words_none : (d : List ℕ) (fs : List (ℕ × ℕ)) → Tight 0 fs (length d) → Words (length d) 0 fs fs d
words_none d fs tight = record { long = refl; tight = tight; is = refl }

module _ {size at : ℕ} {fs : List (ℕ × ℕ)} {d : List ℕ} where
  -- THE NEXT has room, and one is written more
  pub words-room : {f : ℕ × ℕ} {left : List (ℕ × ℕ)} → Words size at (f ∷ left) fs d → (f.0 ≤ 8) × (at + 8 ≤ length d)
  words-room w = (w.tight.0, omega (arith, w.long, w.tight.1))

  pub words_more : {e : List ℕ} {f : ℕ × ℕ} {left : List (ℕ × ℕ)} → Words size at (f ∷ left) fs d → e ≡ patched d at (bytes_of 8 f.1)
      → Words size (at + f.0) left fs e
  unfolding packed
  words_more {e} {f} {left} w q =
      let room = words-room w in
      record {
        long = ap length q ∙ length-patched d at (bytes_of 8 f.1) (omega (arith, length_bytes 8 f.1)) ∙ w.long;
        tight = w.tight.2;
        is = rw (q, word_leaves d at f.0 f.1 room.0 room.1, append_assoc) w.is;
      }

  -- ALL AT LAST
  pub words-all : Words size at [] fs d → d ≡ packed fs
  unfolding packed
  words-all w =
      let ends : at ≡ size = w.tight in
      rw (take_all at d (omega (arith, w.long)), append-nil d) at w.is
