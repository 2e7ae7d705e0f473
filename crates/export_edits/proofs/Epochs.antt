-- THE POLICY'S BYTES AT EXIT say the policy with its catalogue epoch raised, and nothing but these eight is another. Assumes nothing.
use Rattle.rules.proofs.Kit.{ℕ, ◌+◌, ◌^◌, ◌≤◌, ◌<◌, ◌≡◌, refl, sym, ap, ◌∙◌, List, [], ◌++◌, arith, length, take, drop, length-take, length-drop, drop-drop}
use Rattle.rules.proofs.Kit.{drop_at, take_at, eqb-false}
use Rattle.rules.specs.{Limits.max_u64, Bytes.number, Bytes.bytes_of, Bytes.number_at, Records.rounding_of, Records.policy_of, Records.policy_with, Refused.fault}
use Rattle.rules.specs.{Refused.Answer, Refused.refused, Refused.answered, Numbers.EditedPolicy, Edits.spent_faults, Edits.raised_of, Edits.raised_with}
use Rattle.rules.specs.Stored.{policy_size_faults, rounding_faults, policy_byte_faults}
use Rattle.rules.proofs.Faults.{test_none}
use Rattle.endian.proofs.Numbers.{Small, small_take, small_drop, number_bound, number_bytes}
use Rattle.endian_writing.specs.Put.{patched}
use Rattle.endian_writing.proofs.{Bytes.length_bytes, Stored.length-patched}
use Rattle.export_edits.specs.{Epoch.with_epoch, Edits.policy_after}

module _ (d : List ℕ) (at : ℕ) (bs : List ℕ) (room : at + length bs ≤ length d) where
  long : length (take at d) ≡ at
  long = simp length-take (omega arith)

  -- BEFORE A PATCH all is as it was, and after it
  pub patch-before : take at (patched d at bs) ≡ take at d
  unfolding patched
  patch-before = take_at (take at d) (bs ++ drop (at + length bs) d) at long

  pub patch-rest : drop at (patched d at bs) ≡ bs ++ drop (at + length bs) d
  unfolding patched
  patch-rest = drop_at (take at d) (bs ++ drop (at + length bs) d) at long

  pub patch-after : drop (at + length bs) (patched d at bs) ≡ drop (at + length bs) d
  patch-after = sym (drop-drop (length bs) at (patched d at bs)) ∙ ap (drop (length bs)) patch-rest ∙ drop_at bs (drop (at + length bs) d) (length bs) refl

  -- AND IT STANDS WHERE IT WAS PUT
  pub patch-there : take (length bs) (drop at (patched d at bs)) ≡ bs
  patch-there = ap (take (length bs)) patch-rest ∙ take_at bs (drop (at + length bs) d) (length bs) refl

module _ (s : List ℕ) (epoch : ℕ) (room : 16 ≤ length s) where
  many : length (bytes_of 8 epoch) ≡ 8
  many = length_bytes 8 epoch

  fits : 8 + length (bytes_of 8 epoch) ≤ length s
  fits = omega (arith, many)

  -- NO BYTE BEFORE THE 8TH IS ANOTHER, and none from the 16th on
  pub epoch-before : take 8 (with_epoch s epoch) ≡ take 8 s
  epoch-before = patch-before s 8 (bytes_of 8 epoch) fits

  pub epoch-after : drop 16 (with_epoch s epoch) ≡ drop 16 s
  epoch-after = rw many at (patch-after s 8 (bytes_of 8 epoch) fits)

  pub epoch-length : length (with_epoch s epoch) ≡ length s
  epoch-length = length-patched s 8 (bytes_of 8 epoch) fits

  there : epoch < 2 ^ 64 → number_at (with_epoch s epoch) 8 8 ≡ epoch
  there h = ap number (rw many at (patch-there s 8 (bytes_of 8 epoch) fits)) ∙ number_bytes 8 epoch h

  elsewhere : (k w : ℕ) → number_at (with_epoch s epoch) (16 + k) w ≡ number_at s (16 + k) w
  elsewhere k w = ap (λ t. number (take w t)) (sym (drop-drop k 16 (with_epoch s epoch)) ∙ ap (drop k) epoch-after ∙ drop-drop k 16 s)

  -- THEY SAY THE SAME POLICY WITH THAT EPOCH
  pub epoch-policy : epoch < 2 ^ 64 → policy_of (with_epoch s epoch) ≡ record {
    policy_epoch = (policy_of s).policy_epoch;
    catalog_epoch = epoch;
    hard_risk_limit_bps = (policy_of s).hard_risk_limit_bps;
    minimum_confidence_bps = (policy_of s).minimum_confidence_bps;
    risk_penalty_multiplier_bps = (policy_of s).risk_penalty_multiplier_bps;
    latency_penalty_microunits_per_ms = (policy_of s).latency_penalty_microunits_per_ms;
    rounding = (policy_of s).rounding;
    latency_allowance_ms = (policy_of s).latency_allowance_ms;
  }
  unfolding policy_of policy_with
  epoch-policy h = λ i. record {
    policy_epoch = ap number epoch-before i;
    catalog_epoch = there h i;
    hard_risk_limit_bps = elsewhere 0 2 i;
    minimum_confidence_bps = elsewhere 2 2 i;
    risk_penalty_multiplier_bps = elsewhere 4 2 i;
    latency_penalty_microunits_per_ms = elsewhere 6 8 i;
    rounding = rounding_of (elsewhere 14 1 i);
    latency_allowance_ms = elsewhere 15 4 i;
  }

-- AND ARE REFUSED AS THEY WERE
pub epoch_faults : (s : List ℕ) (epoch : ℕ) → 16 ≤ length s → policy_byte_faults (with_epoch s epoch) ≡ policy_byte_faults s
unfolding policy_size_faults rounding_faults
epoch_faults s epoch room = rw (epoch-length s epoch room, elsewhere s epoch room 14 1)

-- WHATEVER AN EDIT ANSWERS, no byte of the policy but the 8th to the 15th is another
pub only_epoch : (a : Answer EditedPolicy) (s : List ℕ) → 16 ≤ length s → (take 8 (policy_after a s) ≡ take 8 s) × (drop 16 (policy_after a s) ≡ drop 16 s)
only_epoch (refused f) s room = (refl, refl)
only_epoch (answered e) s room = (epoch-before s _ room, epoch-after s _ room)

-- WHERE IT SUCCEEDS, they say the policy with its epoch raised by one
module _ (s : List ℕ) (small : Small s) (room : 16 ≤ length s) where
  high : (policy_of s).catalog_epoch < 256 ^ 8
  unfolding policy_of policy_with
  high =
      let part = take 8 (drop 8 s) in
      let eight : length part ≡ 8 = simp (length-take, length-drop) (omega arith) in
      rw eight at (number_bound part (small_take 8 (drop 8 s) (small_drop 8 s small)))

  pub epoch-raised : (number : ℕ) → spent_faults (policy_of s) ≡ [] → policy_of (policy_after (answered (raised_with (policy_of s) number)) s) ≡ raised_of (policy_of s)
  unfolding raised_of spent_faults
  epoch-raised number left =
      let other = eqb-false (policy_of s).catalog_epoch max_u64 (test_none _ (fault 27) left) in
      epoch-policy s ((policy_of s).catalog_epoch + 1) room (below-most (policy_of s).catalog_epoch high other)
    where
      below-most : (n : ℕ) → n < 256 ^ 8 → (n ≡ max_u64 → ⊥) → n + 1 < 2 ^ 64
      below-most n h other = omega arith
