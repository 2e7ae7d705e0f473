-- A number of two limbs in sixteen bytes. Assumes nothing.
use Rattle.rules.proofs.Kit.{ℕ, ◌+◌, ◌*◌, ◌^◌, ◌≤◌, ◌<◌, List, ◌≡◌, arith, length}
use Rattle.rules.specs.{Bytes.bytes_of, Wide.limbs}
use Rattle.endian_writing.specs.Put.{patched}
use Rattle.endian_writing.proofs.{Bytes.bytes_join, Bytes.length_bytes, Stored.patch_join}

-- SIXTEEN BYTES ARE EIGHT OF THE LOW LIMB AND EIGHT OF THE HIGH ONE, written one after the other
pub patch_limbs : (d e g : List ℕ) (at hi lo : ℕ) → at + 16 ≤ length d → lo < 2 ^ 64 → e ≡ patched d at (bytes_of 8 lo) → g ≡ patched e (at + 8) (bytes_of 8 hi)
    → g ≡ patched d at (bytes_of 16 (limbs hi lo))
unfolding limbs
patch_limbs d e g at hi lo h fits p q =
    let long : length (bytes_of 8 lo) ≡ 8 = length_bytes 8 lo in
    let sum : hi * 2 ^ 64 + lo ≡ lo + 256 ^ 8 * hi = omega arith in
    rw (q, p, sum, bytes_join 8 8 lo hi fits) (rw long at (patch_join d at (bytes_of 8 lo) (bytes_of 8 hi) (omega arith)))
