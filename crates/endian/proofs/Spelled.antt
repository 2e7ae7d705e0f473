-- The bytes of a part, one by one, are those of the rule's part. Assumes nothing.
use Rattle.rules.proofs.Kit.{ℕ, zero, suc, ◌+◌, ◌-◌, ◌≤◌, ◌<◌, List, [], ◌∷◌, ◌≡◌, refl, sym, ap, ◌∙◌, arith, add-suc, add-one, length, get_or, take, drop, drop-cons, length-take-le, length-drop, take-length}
use Rattle.rules.specs.Bytes.{number}
use Rattle.endian.proofs.Numbers.{number_one}

-- n bytes of a list, from `at + k` on, each at its place
abbrev pub spelled : ℕ → List ℕ → ℕ → ℕ → List ℕ
spelled zero s at k = []
spelled (suc n) s at k = get_or s (at + k) 0 ∷ spelled n s at (suc k)

spelled_part : (n : ℕ) (s : List ℕ) (at k : ℕ) → at + k + n ≤ length s → spelled n s at k ≡ take n (drop (at + k) s)
spelled_part zero s at k h = refl
spelled_part (suc n) s at k h =
    rw (drop-cons s (at + k) 0 (omega arith), spelled_part n s at (suc k) (omega arith), add-suc)

-- A PART'S BYTES, ONE BY ONE. The first stands apart, at `at` and not at `at + 0`
pub part_spelled : (n : ℕ) (s : List ℕ) (at : ℕ) → at + suc n ≤ length s → get_or s at 0 ∷ spelled n s at 1 ≡ take (suc n) (drop at s)
part_spelled n s at h =
    rw (drop-cons s at 0 (omega arith), spelled_part n s at 1 (omega arith), add-one)

-- and the number that they say
pub number_at : (n : ℕ) (s : List ℕ) (at : ℕ) → at + suc n ≤ length s → number (get_or s at 0 ∷ spelled n s at 1) ≡ number (take (suc n) (drop at s))
number_at n s at h = ap number (part_spelled n s at h)

-- One byte is the number of a field that is one byte wide
pub byte_at : (s : List ℕ) (at : ℕ) → at < length s → get_or s at 0 ≡ number (take 1 (drop at s))
byte_at s at h = sym (number_one (get_or s at 0)) ∙ number_at 0 s at (omega arith)

-- A PART THAT IS TAKEN OUT FIRST, as code takes it, and then read byte by byte
pub part_said : (n at : ℕ) (s part : List ℕ) → at + suc n ≤ length s → part ≡ take (at + suc n - at) (drop at s)
    → number (get_or part 0 0 ∷ spelled n part 0 1) ≡ number (take (suc n) (drop at s))
part_said n at s part h e =
    let wide : at + suc n - at ≡ suc n = omega arith in
    let whole : part ≡ take (suc n) (drop at s) = rw wide at e in
    let long : length part ≡ suc n = ap length whole ∙ length-take-le (suc n) (drop at s) (omega (arith, length-drop at s)) in
    number_at n part 0 (omega arith) ∙ ap number (ap (λ w. take w part) (sym long) ∙ take-length part ∙ whole)
