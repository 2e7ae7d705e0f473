-- The bodies of fields that pass. Assumes nothing.
use Rattle.rules.proofs.Kit.{ℕ, ◌≡◌, ◌∙◌, List, [], ◌∷◌, arith, length}
use Rattle.rules.specs.{Limits.policy_bytes, Limits.stored_request_bytes, Bytes.number, Refused.fault, Stored.body_of, Stored.body_faults}
use Rattle.rules.proofs.Faults.{equal_none, none_first, some_fault}
use Rattle.stored_fields.proofs.Lengths.{fits_policy, fits_request, fits_rounding, fits_allowance}
use Rattle.stored_layout.proofs.Passing.{Passed, body_length_lem}

-- The bodies of tags 1 and 3 have their bytes
pub policy_length : (s : List ℕ) → Passed 1 s → length (body_of s) ≡ policy_bytes
policy_length s p = body_length_lem s p.whole ∙ fits_policy _ p.right

pub request_length : (s : List ℕ) → Passed 3 s → length (body_of s) ≡ stored_request_bytes
request_length s p = body_length_lem s p.whole ∙ fits_request _ p.right

-- and that of tag 4 is 1
one_element : (bs : List ℕ) → length bs ≡ 1 → number bs ≡ 1 → bs ≡ 1 ∷ []
unfolding number
one_element [] e h = absurd (omega arith)
one_element (b ∷ []) e h =
    let one : b ≡ 1 = omega arith in
    rw one
one_element (b ∷ c ∷ bs) e h = absurd (omega arith)

pub rounding_body : (s : List ℕ) → Passed 4 s → body_of s ≡ 1 ∷ []
unfolding body_faults
rounding_body s p =
    one_element (body_of s) (body_length_lem s p.whole ∙ fits_rounding _ p.right)
    (equal_none (number (body_of s)) 1 (fault 23) (none_first _ _ p.body))

-- That of tag 5 has four bytes, and is not 0
pub allowance_length : (s : List ℕ) → Passed 5 s → length (body_of s) ≡ 4
allowance_length s p = body_length_lem s p.whole ∙ fits_allowance _ p.right

pub allowance_above : (s : List ℕ) → Passed 5 s → number (body_of s) ≡ 0 → ⊥
unfolding body_faults
allowance_above s p e = some_fault (rw e at p.body)
