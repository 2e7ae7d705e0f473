-- Bytes stored one by one, or copied to a part, make the rule's patched list, and patches join. Assumes nothing.
use Rattle.rules.proofs.Kit.{ℕ, ◌+◌, ◌-◌, ◌≤◌, ◌<◌, List, [], ◌∷◌, ◌++◌, append_assoc, ◌≡◌, ◌∙◌, arith, add_assoc, length, take}
use Rattle.rules.proofs.Kit.{drop, set, length-append, length-take, length-drop, sets, sets-eq, take_at, drop-append-add, drop-drop}
use lib.Seq.{length-sets}
use borrow.Rule.Slice.PartMut.{put_mid}
use Rattle.std.specs.Int.{bytes_low_first}
use Rattle.rules.specs.Bytes.{bytes_of}
use Rattle.endian_writing.specs.Put.{patched}
use Rattle.endian_writing.proofs.Bytes.{length_bytes, low_first, one_byte}

-- Storing keeps the length, so that after some bytes of a number the place of the next one is still there
pub length_stored : (d : List ℕ) (at : ℕ) (bs : List ℕ) → length (sets d at bs) ≡ length d
length_stored d at bs = length-sets d at bs

pub next_place : (d : List ℕ) (at w x k : ℕ) → at + w ≤ length d → k < w → at + k < length (sets d at (bytes_of k x))
next_place d at w x k h l = rw (length_stored d at (bytes_of k x)) (omega arith)

-- BYTES STORED ONE AFTER THE OTHER ARE A PATCH
pub stored_patch : (d : List ℕ) (at : ℕ) (bs : List ℕ) → at + length bs ≤ length d → sets d at bs ≡ patched d at bs
unfolding patched
stored_patch d at bs h = sets-eq bs d at h ∙ append_assoc (take at d) bs (drop (at + length bs) d)

-- A PART WRITTEN WHOLE IS A PATCH, as code goes to the part, and holds the bytes in it
pub part_patch : (d ys bs : List ℕ) (at w : ℕ) → ys ≡ bs → length bs ≡ w → put_mid at (at + w - at) d ys ≡ patched d at bs
unfolding patched
part_patch d ys bs at w e l =
    let k : at + w - at ≡ length bs = omega (arith, l) in
    rw (e, k, drop-drop)

-- A number so written
pub number_patch : (d ys : List ℕ) (at w x : ℕ) → ys ≡ bytes_low_first 0 w x → put_mid at (at + w - at) d ys ≡ patched d at (bytes_of w x)
number_patch d ys at w x e = part_patch d ys (bytes_of w x) at w (e ∙ low_first w x) (length_bytes w x)

-- A patch keeps the length
pub length-patched : (d : List ℕ) (at : ℕ) (bs : List ℕ) → at + length bs ≤ length d → length (patched d at bs) ≡ length d
unfolding patched
length-patched d at bs h = simp (length-append, length-take, length-drop) (omega arith)

-- A PATCH RIGHT AFTER A PATCH IS A LONGER PATCH
pub patch_join : (d : List ℕ) (at : ℕ) (bs cs : List ℕ) → at + length bs ≤ length d → patched (patched d at bs) (at + length bs) cs ≡ patched d at (bs ++ cs)
unfolding patched
patch_join d at bs cs h =
    let long : length (take at d ++ bs) ≡ at + length bs = simp (length-append, length-take) (omega arith) in
    let after : drop (at + length bs + length cs) (take at d ++ (bs ++ drop (at + length bs) d)) ≡ drop (at + length (bs ++ cs)) d =
    rw (← append_assoc (take at d) bs (drop (at + length bs) d), ← long, drop-append-add, drop-drop, long, length-append, add_assoc) in
    rw (after, ← append_assoc (take at d) bs (drop (at + length bs) d), take_at _ _ _ long) (simp append_assoc)

-- One byte stored is a patch of one byte
pub byte_patch : (d : List ℕ) (at b : ℕ) → at < length d → b < 256 → set d at b ≡ patched d at (bytes_of 1 b)
byte_patch d at b h fits = rw (one_byte b fits) (stored_patch d at (b ∷ []) (omega arith))
