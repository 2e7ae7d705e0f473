-- The bytes that say a number, for every width: how many they are, and how they are joined. Assumes nothing.
use Rattle.rules.proofs.Kit.{ℕ, zero, suc, ◌+◌, ◌*◌, ◌/◌, ◌%◌, ◌^◌, ◌<◌, [], ◌∷◌, ◌++◌, ◌≡◌, refl, sym, ap, ap₂, ◌∙◌, arith, zero-add, suc-add, mul_assoc, pow-suc, pow-succ', length, Fits, w8}
use Rattle.std.proofs.Math.Nat.{div-div-eq-div-mul}
use Rattle.std.specs.Int.{byte_at, bytes_low_first}
use Rattle.rules.specs.Bytes.{bytes_of}

-- A NUMBER HAS AS MANY BYTES AS WERE ASKED FOR
pub length_bytes : (w n : ℕ) → length (bytes_of w n) ≡ w
unfolding bytes_of
length_bytes zero n = refl
length_bytes (suc w) n = ap suc (length_bytes w (n / 256))

-- A number's lowest byte is a byte
pub low_fits : (n : ℕ) → Fits w8 (n % 256)
low_fits n = record { fits = omega arith }

-- a byte of the library, at its place
low_byte : (i n : ℕ) → byte_at i n ≡ n / 256 ^ i % 256
low_byte zero n = omega arith
low_byte (suc i) n = refl

-- THE BYTES THAT THE LIBRARY WRITES ARE THE RULE'S: after the first i, those of what is left of the number
from_low : (i w n : ℕ) → bytes_low_first i w n ≡ bytes_of w (n / 256 ^ i)
unfolding bytes_of
from_low i zero n = refl
from_low i (suc w) n =
    let left : n / 256 ^ i / 256 ≡ n / 256 ^ suc i = div-div-eq-div-mul n (256 ^ i) 256 ∙ ap (λ m. n / m) (sym (pow-suc 256 i)) in
    ap₂ (λ a l. a ∷ l) (low_byte i n) (from_low (suc i) w n ∙ ap (bytes_of w) (sym left))

pub low_first : (w n : ℕ) → bytes_low_first 0 w n ≡ bytes_of w n
low_first w n = let e : n / 256 ^ 0 ≡ n = omega arith in from_low 0 w n ∙ ap (bytes_of w) e

-- One byte is said by itself
pub one_byte : (b : ℕ) → b < 256 → bytes_of 1 b ≡ b ∷ []
unfolding bytes_of
one_byte b h =
    let e : b % 256 ≡ b = omega arith in
    rw e

-- THE BYTES AFTER THE FIRST m SAY 256 ^ m TIMES AS MUCH
pub bytes_join : (m k lo hi : ℕ) → lo < 256 ^ m → bytes_of (m + k) (lo + 256 ^ m * hi) ≡ bytes_of m lo ++ bytes_of k hi
unfolding bytes_of
bytes_join zero k lo hi h =
    let e : lo + 256 ^ 0 * hi ≡ hi = omega arith in
    rw (e, zero-add)
bytes_join (suc m) k lo hi h =
    let p : 256 ^ suc m * hi ≡ 256 * (256 ^ m * hi) = rw (pow-succ', mul_assoc) in
    let low : (lo + 256 ^ suc m * hi) % 256 ≡ lo % 256 = omega arith in
    let up : (lo + 256 ^ suc m * hi) / 256 ≡ lo / 256 + 256 ^ m * hi = omega arith in
    let less : lo / 256 < 256 ^ m = omega (arith, pow-succ' 256 m) in
    rw (suc-add, low, up, bytes_join m k (lo / 256) hi less)
