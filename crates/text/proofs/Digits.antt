-- A number in decimal digits: one digit at a time, with its sign, and how many there are. Assumes nothing.
use Rattle.rules.proofs.Kit.{ℕ, zero, suc, ◌+◌, ◌*◌, ◌/◌, ◌%◌, ◌^◌, ◌≤◌, ◌<◌, ◌≡◌, refl, ap, ◌∙◌, Bool, true, false, List, [], ◌∷◌, ◌++◌, arith, pow-suc}
use Rattle.rules.proofs.Kit.{lt-ltb, le-ltb, ltb-true, ltb-false, ltb, ℤ, pos, negsuc, lt_z, length, length-append}
use Rattle.std.specs.Prelude.{unsigned_abs}
use Rattle.rules.specs.{Choice.pick, Text.text, Text.digits_of, Text.decimal, Text.signed_decimal}

-- ---- one digit at a time

by_test : (n : ℕ) (a x y z : List ℕ) (b : Bool) → ltb n 10 ≡ b → (10 ≤ n → x ≡ y) → pick b (λ _. a) (λ _. x ++ z) ≡ pick b (λ _. a) (λ _. y ++ z)
by_test n a x y z true e f = refl
by_test n a x y z false e f = ap (λ (l : List ℕ). l ++ z) (f (ltb-false n 10 e))

-- How many digits are allowed doesn't matter, if there are enough
enough : (j k n : ℕ) → n < j → n < k → digits_of j n ≡ digits_of k n
unfolding digits_of
enough zero k n h g = absurd (omega arith)
enough (suc j) zero n h g = absurd (omega arith)
enough (suc j) (suc k) n h g =
    by_test n ((48 + n) ∷ []) (digits_of j (n / 10)) (digits_of k (n / 10)) ((48 + n % 10) ∷ []) (ltb n 10) refl
    (λ t. enough j k (n / 10) (omega arith) (omega arith))

-- ONE DIGIT, below 10
pub decimal_one : (n : ℕ) → n < 10 → decimal n ≡ (48 + n % 10) ∷ []
unfolding decimal digits_of
decimal_one n h =
    let e : n ≡ n % 10 = omega arith in
    rw (lt-ltb n 10 h) (ap (λ (d : ℕ). (48 + d) ∷ []) e)

-- ONE DIGIT MORE than its tenth, from 10 on
pub decimal_more : (n : ℕ) → 10 ≤ n → decimal n ≡ decimal (n / 10) ++ ((48 + n % 10) ∷ [])
unfolding decimal digits_of
decimal_more n h =
    rw (le-ltb n 10 h) (ap (λ (l : List ℕ). l ++ ((48 + n % 10) ∷ [])) (enough n (suc (n / 10)) (n / 10) (omega arith) (omega arith)))

-- ---- how many

pub one_length : (n : ℕ) → n < 10 → length (decimal n) ≡ 1
one_length n h = ap length (decimal_one n h)

pub more_length : (n : ℕ) → 10 ≤ n → length (decimal n) ≡ length (decimal (n / 10)) + 1
more_length n h = ap length (decimal_more n h) ∙ length-append (decimal (n / 10)) ((48 + n % 10) ∷ [])

either : {P : Type 0} (n : ℕ) (b : Bool) → ltb n 10 ≡ b → (n < 10 → P) → (10 ≤ n → P) → P
either n true e f g = f (ltb-true n 10 e)
either n false e f g = g (ltb-false n 10 e)

fewer : (n p : ℕ) → n < p * 10 → n / 10 < p
fewer n p h = omega arith

-- A NUMBER BELOW 10 ^ k HAS AT MOST k DIGITS, or one
pub decimal_short : (k n : ℕ) → n < 10 ^ suc k → length (decimal n) ≤ suc k
decimal_short zero n h = rw (one_length n h) (omega arith)
decimal_short (suc k) n h =
    either n (ltb n 10) refl
    (λ l. rw (one_length n l) (omega arith))
    (λ m.
    let s : length (decimal (n / 10)) ≤ suc k = decimal_short k (n / 10) (fewer n (10 ^ suc k) (rw pow-suc at h)) in
    rw (more_length n m) (omega arith))

-- A U64 HAS AT MOST 20 DIGITS
pub decimal_twenty : (n : ℕ) → n < 2 ^ 64 → length (decimal n) ≤ 20
decimal_twenty n h = decimal_short 19 n (omega arith)

-- and a number to 2 ^ 63 at most 19
pub decimal_nineteen : (n : ℕ) → n ≤ 2 ^ 63 → length (decimal n) ≤ 19
decimal_nineteen n h = decimal_short 18 n (omega arith)

-- ---- signed numbers, by their size

-- FROM 0 ON the size is the number
pub signed_up : (z : ℤ) → lt_z z (pos 0) ≡ false → decimal (unsigned_abs z) ≡ signed_decimal z
unfolding signed_decimal
signed_up (pos n) h = refl
signed_up (negsuc n) h = (cc)

-- BELOW 0 a minus stands in front of it, the byte 45
pub signed_down : (z : ℤ) → lt_z z (pos 0) ≡ true → (45 ∷ []) ++ decimal (unsigned_abs z) ≡ signed_decimal z
unfolding signed_decimal text
signed_down (pos n) h = absurd (omega (arith, ltb-true n 0 h))
signed_down (negsuc n) h = refl
