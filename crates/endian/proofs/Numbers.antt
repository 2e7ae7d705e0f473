-- The number that bytes say, for every width: how it is bounded, and how number and bytes are taken back from each other. Assumes nothing.
use Rattle.rules.proofs.Kit.{ℕ, zero, suc, ◌+◌, ◌*◌, ◌/◌, ◌%◌, ◌^◌, ◌<◌, List, [], ◌∷◌, ◌≡◌, refl, arith, pow-succ', length, get_or, take, drop, get_or-drop}
use Rattle.rules.specs.Bytes.{number, bytes_of}

-- A list of bytes: every element is below 256
abbrev pub Small : List ℕ → Type 0
Small bs = (i : ℕ) → get_or bs i 0 < 256

-- the rest of a list of bytes is one
pub small_rest : (b : ℕ) (bs : List ℕ) → Small (b ∷ bs) → Small bs
small_rest b bs small i = small (suc i)

-- and so is a part of one
pub small_take : (w : ℕ) (bs : List ℕ) → Small bs → Small (take w bs)
small_take zero bs small i = omega arith
small_take (suc w) [] small i = omega arith
small_take (suc w) (b ∷ bs) small zero = small 0
small_take (suc w) (b ∷ bs) small (suc i) = small_take w bs (small_rest b bs small) i

pub small_drop : (at : ℕ) (bs : List ℕ) → Small bs → Small (drop at bs)
small_drop at bs small i = rw get_or-drop (small (at + i))

-- BYTES SAY A NUMBER BELOW 256 TO THEIR COUNT
pub number_bound : (bs : List ℕ) → Small bs → number bs < 256 ^ length bs
unfolding number
number_bound [] small = omega arith
number_bound (b ∷ bs) small =
    let low : b < 256 = small 0 in
    omega (arith, number_bound bs (small_rest b bs small), pow-succ' 256 (length bs))

-- READING WHAT WAS WRITTEN
pub number_bytes : (w n : ℕ) → n < 256 ^ w → number (bytes_of w n) ≡ n
unfolding number bytes_of
number_bytes zero n h = omega arith
number_bytes (suc w) n h =
    let less : n / 256 < 256 ^ w = omega (arith, pow-succ' 256 w) in
    omega (arith, number_bytes w (n / 256) less)

-- a byte put before a number is taken off it again
low_byte : (b r : ℕ) → b < 256 → (b + 256 * r) % 256 ≡ b
low_byte b r h = omega arith

rest_of : (b r : ℕ) → b < 256 → (b + 256 * r) / 256 ≡ r
rest_of b r h = omega arith

-- WRITING WHAT WAS READ
pub bytes_number : (bs : List ℕ) → Small bs → bytes_of (length bs) (number bs) ≡ bs
unfolding number bytes_of
bytes_number [] small = refl
bytes_number (b ∷ bs) small =
    rw (low_byte b (number bs) (small 0), rest_of b (number bs) (small 0), bytes_number bs (small_rest b bs small))

-- One byte says itself
pub number_one : (b : ℕ) → number (b ∷ []) ≡ b
unfolding number
number_one b = omega arith
