-- Round trips of a model, a request and a policy: each cites the laws on packed numbers. Assumes nothing.
use Rattle.rules.proofs.Kit.{ℕ, zero, suc, ◌^◌, ◌≤◌, ◌<◌, List, [], ◌∷◌, ◌++◌, ◌≡◌, refl, sym, ap, ap₂, ◌∙◌, arith, length, take, drop, set, length-take}
use Rattle.rules.proofs.Kit.{length-drop, length-append, length-set, append-nil, drop_of_length-le, le-ltb, w64, SFits}
use Rattle.rules.specs.{Limits.record_bytes, Limits.request_bytes, Limits.policy_bytes, Limits.rounded_policy_bytes, Limits.longest_policy_bytes, Bytes.number}
use Rattle.rules.specs.{Bytes.number_at, Bytes.bytes_of, Bytes.packed, Bytes.filled}
use Rattle.rules.specs.{Choice.equal, Records.model_fields, Records.model_of, Records.model_bytes, Records.input_fields, Records.input_of, Records.input_bytes}
use Rattle.rules.specs.{Records.rounding_no, Records.rounding_of, Records.policy_with, Records.policy_of, Records.policy_numbers, Records.policy_number_bytes}
use Rattle.rules.specs.{Records.policy_fields, Records.policy_in_bytes, Refused.fault, Refused.answered, Stored.policy_size_faults, Stored.rounding_faults}
use Rattle.rules.specs.{Stored.read_policy_of, declared.records.KernelModel.KernelModel, declared.records.KernelInput.KernelInput}
use Rattle.rules.specs.{declared.records.PolicySnapshot.PolicySnapshot, declared.records.Rounding.Rounding}
use Rattle.rules.specs.declared.records.Rounding.TheVariants.{Apart, Once}
use Rattle.rules.proofs.Faults.{below_none}
use Rattle.endian.proofs.Numbers.{Small, small_take, small_drop, number_bound}
use Rattle.endian_writing.specs.Put.{patched}
use Rattle.endian_writing.proofs.{Bytes.one_byte, Stored.byte_patch}
use Rattle.endian_signs.proofs.Signs.{signed_bits, bits_signed}
use Rattle.packing.proofs.Layouts.{Fitting, Says, fitting_append, length-packed, packed-append, packed_says, says_packed}
use Rattle.packing.proofs.Packing.{Laid, laid_more, laid_all}

-- What is written has the bytes of its fields
pub length_model : (m : KernelModel) → length (model_bytes m) ≡ record_bytes
length_model m = length-packed (model_fields m)

pub length_input : (q : KernelInput) → length (input_bytes q) ≡ request_bytes
length_input q = length-packed (input_fields q)

pub length-numbers : (p : PolicySnapshot) → length (policy_number_bytes p) ≡ policy_bytes
length-numbers p = length-packed (policy_numbers p)

pub length_policy : (p : PolicySnapshot) → length (policy_in_bytes p) ≡ longest_policy_bytes
length_policy p = length-packed (policy_fields p)

-- How a policy rounds is one byte, and comes back from it
rounding_low : (r : Rounding) → rounding_no r ≤ 1
rounding_low Apart = omega arith
rounding_low Once = omega arith

pub rounding_back : (r : Rounding) → rounding_of (rounding_no r) ≡ r
unfolding equal
rounding_back Apart = refl
rounding_back Once = refl

-- A POLICY'S BYTES ARE THOSE OF ITS NUMBERS, then how it rounds, then its allowance
pub policy_parts : (p : PolicySnapshot)
    → policy_in_bytes p ≡ policy_number_bytes p ++ (rounding_no p.rounding ∷ bytes_of 4 p.latency_allowance_ms)
unfolding packed
policy_parts p =
    packed-append (policy_numbers p) ((1, rounding_no p.rounding) ∷ (4, p.latency_allowance_ms) ∷ [])
    ∙ ap (λ (t : List ℕ). policy_number_bytes p ++ t)
    (rw (one_byte (rounding_no p.rounding) (omega (arith, rounding_low p.rounding)), append-nil (bytes_of 4 p.latency_allowance_ms)))

-- and are laid so: the numbers before five bytes, of which the first is then set, and the others are written over
module _ {s : List ℕ} (p : PolicySnapshot) (z : List ℕ) (long : length z ≡ longest_policy_bytes) (e : s ≡ policy_number_bytes p) where
  begun : length (s ++ drop policy_bytes z) ≡ longest_policy_bytes
  begun = simp (length-append, e, length-numbers p, length-drop) (omega (arith, long))

  pub policy-room : (n : ℕ) → length (set (s ++ drop policy_bytes z) policy_bytes n) ≡ longest_policy_bytes
  policy-room n = simp length-set begun

  pub policy-laid : {d : List ℕ} {n : ℕ} → n ≡ rounding_no p.rounding
      → d ≡ patched (set (s ++ drop policy_bytes z) policy_bytes n) rounded_policy_bytes (bytes_of 4 p.latency_allowance_ms) → d ≡ policy_in_bytes p
  unfolding filled
  policy-laid {d} {n} f g =
      let numbers : Laid z (policy_numbers p) (s ++ drop policy_bytes z) = record { is = rw (e, length-numbers p) } in
      let byte : n < 256 = omega (arith, f, rounding_low p.rounding) in
      let one = byte_patch (s ++ drop policy_bytes z) policy_bytes n (omega (arith, begun)) byte in
      let rounded = laid_more numbers policy_bytes 1 n one refl (omega (arith, long)) in
      let all = laid_more rounded rounded_policy_bytes 4 p.latency_allowance_ms g refl (omega (arith, long)) in
      rw f at (laid_all all (sym long))

-- READING WHAT WAS WRITTEN gives the same, where the numbers fit their widths
pub model_back : (m : KernelModel) → Fitting (model_fields m) → model_of (model_bytes m) ≡ m
unfolding model_of
model_back m fit =
    let r = packed_says (model_fields m) (model_bytes m) 0 fit refl in
    let s = r.1.1.1.1 in
    rw (r.0, r.1.0, r.1.1.0, r.1.1.1.0, s.0, s.1.0, s.1.1.0, s.1.1.1.0, s.1.1.1.1.0, s.1.1.1.1.1.0)

-- of a policy's numbers alone, where the rest of it is known
pub numbers_back : (p : PolicySnapshot) → Fitting (policy_numbers p) → policy_with p.rounding p.latency_allowance_ms (policy_number_bytes p) ≡ p
unfolding policy_with
numbers_back p fit =
    let r = packed_says (policy_numbers p) (policy_number_bytes p) 0 fit refl in
    rw (r.0, r.1.0, r.1.1.0, r.1.1.1.0, r.1.1.1.1.0, r.1.1.1.1.1.0)

-- A policy's numbers fit their widths, its allowance among them
abbrev pub PolicyFits : PolicySnapshot → Type 0
PolicyFits p = Fitting (policy_numbers p) × (p.latency_allowance_ms < 256 ^ 4)

module _ (p : PolicySnapshot) (fit : PolicyFits p) where
  policy-says : Says (policy_in_bytes p) 0 (policy_fields p)
  policy-says =
      let rest : List (ℕ × ℕ) = (1, rounding_no p.rounding) ∷ (4, p.latency_allowance_ms) ∷ [] in
      let all = fitting_append (policy_numbers p) rest fit.0 (omega (arith, rounding_low p.rounding), (fit.1, tt)) in
      packed_says (policy_fields p) (policy_in_bytes p) 0 all refl

  pub policy_back : policy_of (policy_in_bytes p) ≡ p
  unfolding policy_of policy_with
  policy_back =
      let r = policy-says in
      let s = r.1.1.1 in
      rw (r.0, r.1.0, r.1.1.0, s.0, s.1.0, s.1.1.0, s.1.1.1.0, s.1.1.1.1.0, rounding_back p.rounding)

  -- and refuses none
  pub policy-taken : read_policy_of (policy_in_bytes p) ≡ answered p
  unfolding read_policy_of policy_size_faults rounding_faults
  policy-taken =
      let rounded = policy-says.1.1.1.1.1.1.0 in
      rw (length_policy p, rounded, le-ltb 1 (rounding_no p.rounding) (rounding_low p.rounding), policy_back)

-- a request's value is signed, and comes back from its bits
pub input_back : (q : KernelInput) → Fitting (input_fields q) → SFits w64 q.business_value_microunits → input_of (input_bytes q) ≡ q
unfolding input_of
input_back q fit sfit =
    let r = packed_says (input_fields q) (input_bytes q) 0 fit refl in
    let s = r.1.1.1.1 in
    let t = s.1.1.1.1.1 in
    rw (r.0, r.1.0, r.1.1.0, r.1.1.1.0, s.0, s.1.0, s.1.1.0, s.1.1.1.0, s.1.1.1.1.0, t.0, t.1.0, t.1.1.0, t.1.1.1.0)
    (rw (signed_bits q.business_value_microunits sfit))

-- WRITING WHAT WAS READ gives the same bytes, where there are as many as the fields have
pub model_forth : (s : List ℕ) → Small s → length s ≡ record_bytes → model_bytes (model_of s) ≡ s
unfolding model_of
model_forth s small e = says_packed (model_fields (model_of s)) s 0 small (search) (omega arith)

-- of a policy's numbers alone, whatever the rest of it
module _ (r : Rounding) (allowance : ℕ) (s : List ℕ) where
  pub with-rounding : (policy_with r allowance s).rounding ≡ r
  unfolding policy_with
  with-rounding = refl

  pub with-allowance : (policy_with r allowance s).latency_allowance_ms ≡ allowance
  unfolding policy_with
  with-allowance = refl

  pub numbers-forth : Small s → length s ≡ policy_bytes → policy_number_bytes (policy_with r allowance s) ≡ s
  unfolding policy_with
  numbers-forth small e = says_packed (policy_numbers (policy_with r allowance s)) s 0 small (search) (omega arith)

-- a number that says how a policy rounds is said again
rounding_forth : (n : ℕ) → n ≤ 1 → n ≡ rounding_no (rounding_of n)
unfolding equal
rounding_forth zero h = refl
rounding_forth (suc zero) h = refl
rounding_forth (suc (suc n)) h = absurd (omega arith)

pub policy_forth : (s : List ℕ) → Small s → length s ≡ longest_policy_bytes → rounding_faults s ≡ [] → policy_in_bytes (policy_of s) ≡ s
unfolding policy_of policy_with rounding_faults
policy_forth s small e none =
    let rounded = rounding_forth (number_at s policy_bytes 1) (below_none 1 (number_at s policy_bytes 1) (fault 23) none) in
    says_packed (policy_fields (policy_of s)) s 0 small (refl, (refl, (refl, (refl, (refl, (refl, (rounded, (refl, tt)))))))) (omega arith)

-- of a policy in 31 bytes, which has no allowance, the same and four 0; and in 30, which rounds apart, the same and five
pub rounded_lengthened : (s : List ℕ) → Small s → length s ≡ rounded_policy_bytes → rounding_faults s ≡ []
    → policy_in_bytes (policy_of s) ≡ s ++ (0 ∷ 0 ∷ 0 ∷ 0 ∷ [])
unfolding policy_of policy_with rounding_faults number bytes_of packed
rounded_lengthened s small e none =
    let fields = policy_numbers (policy_of s) ++ (1, rounding_no (policy_of s).rounding) ∷ [] in
    let rounded = rounding_forth (number_at s policy_bytes 1) (below_none 1 (number_at s policy_bytes 1) (fault 23) none) in
    let said = says_packed fields s 0 small (refl, (refl, (refl, (refl, (refl, (refl, (rounded, tt))))))) (omega arith) in
    let no_allowance : (policy_of s).latency_allowance_ms ≡ 0 = rw (drop_of_length-le s {i = rounded_policy_bytes} (omega arith)) in
    packed-append fields ((4, (policy_of s).latency_allowance_ms) ∷ []) ∙ ap₂ (λ (t : List ℕ) (n : ℕ). t ++ (bytes_of 4 n ++ [])) said no_allowance

pub policy_lengthened : (s : List ℕ) → Small s → length s ≡ policy_bytes → policy_in_bytes (policy_of s) ≡ s ++ (0 ∷ 0 ∷ 0 ∷ 0 ∷ 0 ∷ [])
unfolding policy_of number equal bytes_of
policy_lengthened s small e =
    let no-rounding = drop_of_length-le s {i = policy_bytes} (omega arith) in
    let no_allowance = drop_of_length-le s {i = rounded_policy_bytes} (omega arith) in
    policy_parts (policy_of s) ∙ rw (no-rounding, no_allowance, numbers-forth Apart 0 s small e, with-rounding Apart 0 s, with-allowance Apart 0 s)

pub input_forth : (s : List ℕ) → Small s → length s ≡ request_bytes → input_bytes (input_of s) ≡ s
unfolding input_of
input_forth s small e =
    let long : length (take 8 (drop 20 s)) ≡ 8 = simp (length-take, length-drop) (omega arith) in
    let fits : number_at s 20 8 < 256 ^ 8 = rw long at (number_bound (take 8 (drop 20 s)) (small_take 8 (drop 20 s) (small_drop 20 s small))) in
    let back = sym (bits_signed (number_at s 20 8) fits) in
    says_packed (input_fields (input_of s)) s 0 small (refl, (refl, (refl, (refl, (back, search))))) (omega arith)
