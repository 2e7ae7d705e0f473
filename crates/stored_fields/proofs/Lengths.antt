-- The lengths that a tag allows. Assumes nothing.
use Rattle.rules.proofs.Kit.{ℕ, ◌/◌, ◌%◌, ◌≤◌, ◌≡◌, refl, Bool, true, false, ◌&&◌, arith, eqb-true, leb-true, eqb, leb}
use Rattle.rules.specs.{Limits.policy_bytes, Limits.stored_record_bytes, Limits.stored_request_bytes, Limits.max_stored_models, Choice.equal, Stored.fits}

pub fits_policy : (n : ℕ) → fits 1 n ≡ true → n ≡ policy_bytes
unfolding fits equal
fits_policy n e = eqb-true n policy_bytes e

both : (a b : Bool) → (a && b) ≡ true → (a ≡ true) × (b ≡ true)
both true b e = (refl, e)
both false b e = absurd (let z : ◌≡◌ {A = ℕ} 0 1 = cc in omega arith)

pub fits_bank : (n : ℕ) → fits 2 n ≡ true → (n % stored_record_bytes ≡ 0) × (n / stored_record_bytes ≤ max_stored_models)
unfolding fits equal
fits_bank n e =
    let t = both (eqb (n % stored_record_bytes) 0) (leb (n / stored_record_bytes) max_stored_models) e in
    (eqb-true (n % stored_record_bytes) 0 t.0, leb-true (n / stored_record_bytes) max_stored_models t.1)

pub fits_request : (n : ℕ) → fits 3 n ≡ true → n ≡ stored_request_bytes
unfolding fits equal
fits_request n e = eqb-true n stored_request_bytes e

pub fits_rounding : (n : ℕ) → fits 4 n ≡ true → n ≡ 1
unfolding fits equal
fits_rounding n e = eqb-true n 1 e

pub fits_allowance : (n : ℕ) → fits 5 n ≡ true → n ≡ 4
unfolding fits equal
fits_allowance n e = eqb-true n 4 e
