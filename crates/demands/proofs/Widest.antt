-- The fields of a bank of bytes that set how wide a search is: latency in 32 bits, quality and ceiling in 16. Assumes nothing.
use Rattle.rules.proofs.Kit.{ℕ, zero, suc, ◌-◌, ◌*◌, ◌^◌, ◌≤◌, ◌<◌, ◌≡◌, subst, Bool, true, false, cond, List, [], ◌∷◌, some, Option·some-injective}
use Rattle.rules.proofs.Kit.{Option·none-ne-some, arith, eqb, length, get_or, take, drop, w8, Fits}
use Rattle.rules.specs.{Limits.record_bytes, Choice.equal, Bytes.number, Order.Each, Records.Listed, Records.model_of, Records.records_in, Records.record_part}
use Rattle.rules.specs.{Records.listed_from, Records.listed_of, Listing.first_listed, declared.records.KernelModel.KernelModel}
use Rattle.demands.specs.Demand3.{AreBytes, BpsWithin}

-- A LENT SLICE HOLDS BYTES: what its type tells of every place
pub lent_bytes : (s : List ℕ) → ((i : ℕ) → Fits w8 (get_or s i 0)) → AreBytes s
lent_bytes [] h = tt
lent_bytes (b ∷ s) h = ((h 0).fits, lent_bytes s (λ i. h (suc i)))

-- parts of bytes are bytes
bytes_dropped : (n : ℕ) (s : List ℕ) → AreBytes s → AreBytes (drop n s)
bytes_dropped zero s h = h
bytes_dropped (suc n) [] h = tt
bytes_dropped (suc n) (b ∷ s) h = bytes_dropped n s h.1

bytes_taken : (n : ℕ) (s : List ℕ) → AreBytes s → AreBytes (take n s)
bytes_taken zero s h = tt
bytes_taken (suc n) [] h = tt
bytes_taken (suc n) (b ∷ s) h = (h.0, bytes_taken n s h.1)

power_positive : (n : ℕ) → 0 < 256 ^ n
power_positive zero = omega arith
power_positive (suc n) = omega (arith, power_positive n)

-- four bytes say a number below 2 ^ 32, two one below 2 ^ 16
number_small : (n : ℕ) (s : List ℕ) → AreBytes s → number (take n s) < 256 ^ n
unfolding number
number_small zero s h = omega arith
number_small (suc n) [] h = power_positive (suc n)
number_small (suc n) (b ∷ s) h = omega (arith, number_small n s h.1, h.0)

-- A model's latency is at most 2 ^ 32 - 1, its quality and ceiling at most 65,535
pub record Narrow (m : KernelModel) : Type 0 where
  pub latency : m.p95_latency_ms ≤ 2 ^ 32 - 1
  pub within : BpsWithin 65535 m

model_narrow : (s : List ℕ) → AreBytes s → Narrow (model_of s)
unfolding model_of
model_narrow s h =
    let latency = number_small 4 (drop 11 s) (bytes_dropped 11 s h) in
    let quality = number_small 2 (drop 6 s) (bytes_dropped 6 s h) in
    let ceiling = number_small 2 (drop 8 s) (bytes_dropped 8 s h) in
    record { latency = omega arith; within = ((omega arith), (omega arith)) }

narrow_from : (bank : List ℕ) (place n : ℕ) → AreBytes bank → Each (λ l. Narrow l.model) (listed_from bank place n)
narrow_from bank place zero h = tt
narrow_from bank place (suc n) h = (
  model_narrow (record_part bank place) (bytes_taken record_bytes (drop (record_bytes * place) bank) (bytes_dropped (record_bytes * place) bank h)),
  narrow_from bank (suc place) n h,
)

-- Demand 3. A BANK OF BYTES IS NARROW ENOUGH: no latency above 2 ^ 32 - 1, no quality or ceiling above 65,535
pub bytes_narrow : (bank : List ℕ) → AreBytes bank → Each (λ l. Narrow l.model) (listed_of bank)
unfolding listed_of
bytes_narrow bank h = narrow_from bank 0 (records_in (length bank)) h

-- what holds for each of a list holds for the first with an id
pub first_of : (P : Listed → Type 0) (id : ℕ) (ls : List Listed) (l : Listed) → Each P ls → first_listed id ls ≡ some l → P l
unfolding first_listed equal
first_of P id [] l h e = absurd (Option·none-ne-some l e)
first_of P id (k ∷ ks) l h e = go (eqb k.model.model_id id) (λ f. first_of P id ks l h.1 f) e
  where
    go : (t : Bool) → (first_listed id ks ≡ some l → P l) → cond t (some k) (first_listed id ks) ≡ some l → P l
    go true ih e = subst P (Option·some-injective k l e) h.0
    go false ih e = ih e
