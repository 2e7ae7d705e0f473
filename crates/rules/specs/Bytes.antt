-- Document 01, "Bytes": numbers and packed fields.
use Rattle.std.specs.Prelude.{ℕ, zero, suc, ◌+◌, ◌*◌, ◌/◌, ◌%◌, List, [], ◌∷◌, ◌++◌, length, take, drop}

-- B1. The number that bytes say, the lowest byte first
unfoldable pub number : List ℕ → ℕ
number [] = 0
number (b ∷ bs) = b + 256 * number bs

-- B1. The bytes, so many, that say a number
unfoldable pub bytes_of : ℕ → ℕ → List ℕ
bytes_of zero n = []
bytes_of (suc width) n = n % 256 ∷ bytes_of width (n / 256)

-- The number that so many bytes say, from an offset on
abbrev pub number_at : List ℕ → ℕ → ℕ → ℕ
number_at s offset width = number (take width (drop offset s))

-- B2. Numbers, each beside its width, packed one after the other with no gap
unfoldable pub packed : List (ℕ × ℕ) → List ℕ
packed [] = []
packed (f ∷ fs) = bytes_of f.0 f.1 ++ packed fs

-- B9. What a list, row or buffer holds once something is filled in at its start: what stands after it is as it was
unfoldable pub filled : {A : Type 0} → List A → List A → List A
filled new list = new ++ drop (length new) list
