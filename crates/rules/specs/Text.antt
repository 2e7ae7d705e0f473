-- Text as the bytes that are printed.
use Rattle.std.specs.Prelude.{ℕ, zero, suc, ◌+◌, ◌/◌, ◌%◌, List, [], ◌∷◌, ◌++◌, ltb, ℤ, pos, negsuc}
use Prim.Native.Char.{code}
use Prim.Native.String.{String, len, char_at}
use Rattle.rules.specs.Choice.{pick}

-- The bytes of a text in ASCII: so many from a place on, then all of them
abbrev pub chars_from : String → ℕ → ℕ → List ℕ
chars_from s at zero = []
chars_from s at (suc n) = code (char_at s at) ∷ chars_from s (suc at) n

unfoldable pub text : String → List ℕ
text s = chars_from s 0 (len s)

-- A number in decimal digits, at most so many, with no 0 in front: the digits of its tenth, then its last digit
unfoldable pub digits_of : ℕ → ℕ → List ℕ
digits_of zero n = []
digits_of (suc most) n = pick (ltb n 10) (λ _. (48 + n) ∷ []) (λ _. digits_of most (n / 10) ++ ((48 + n % 10) ∷ []))

-- No number has more digits than the number itself and one
unfoldable pub decimal : ℕ → List ℕ
decimal n = digits_of (suc n) n

-- A negative number has a minus in front
unfoldable pub signed_decimal : ℤ → List ℕ
signed_decimal (pos n) = decimal n
signed_decimal (negsuc n) = text "-" ++ decimal (suc n)

-- A line: its name, a space before each of its words, the line end
unfoldable pub spaced : List (List ℕ) → List ℕ
spaced [] = []
spaced (w ∷ ws) = text " " ++ w ++ spaced ws

unfoldable pub line : List ℕ → List (List ℕ) → List ℕ
line name words = name ++ spaced words ++ (10 ∷ [])
