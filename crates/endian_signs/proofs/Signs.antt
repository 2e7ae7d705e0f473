-- Two's complement: a signed number's bits say it, and bits come back from the number they say. Assumes nothing.
use Rattle.rules.proofs.Kit.{ℕ, ◌<◌, ◌^◌, ◌≡◌, ℤ, w64}
use Rattle.rules.proofs.Kit.{to_z, of_z, SFits, to_z-of_z, of_z-to_z}

-- A SIGNED NUMBER COMES BACK FROM ITS 64 BITS, AND 64 BITS FROM THEIR SIGNED NUMBER
pub signed_bits : (z : ℤ) → SFits w64 z → to_z w64 (of_z w64 z) ≡ z
signed_bits z h = to_z-of_z w64 z h

pub bits_signed : (n : ℕ) → n < 2 ^ 64 → of_z w64 (to_z w64 n) ≡ n
bits_signed n h = of_z-to_z w64 n (record { fits = h })
