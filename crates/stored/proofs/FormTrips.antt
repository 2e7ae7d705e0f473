-- Whole forms both ways: a form that was written passes and says the same, and one that passes is written as it was. Assumes nothing.
use Rattle.rules.proofs.Kit.{ℕ, ◌%◌, ◌≤◌, ◌<◌, ◌≡◌, refl, ap, ◌∙◌, true, not, List, [], ◌∷◌, ◌++◌, append_assoc, arith, eq-eqb, le-leb, le-ltb, eqb, ltb}
use Rattle.rules.proofs.Kit.{length, w64, SFits}
use Rattle.rules.specs.{Limits.record_bytes, Limits.max_catalog_models, Limits.max_stored_models, Choice.equal, Records.policy_with, Records.policy_number_bytes}
use Rattle.rules.specs.{Records.input_of, Records.input_bytes, Records.records_in, Records.input_fields, Refused.fault, Refused.refuse_if, Refused.length_faults}
use Rattle.rules.specs.{Stored.field_bytes, Stored.fits, Stored.body_of, Stored.after_of, Stored.body_faults, Stored.after_due, Stored.form_faults}
use Rattle.rules.specs.{Stored.rounding_field, Stored.allowance_field, Stored.optional_fields, Stored.stored_form, Stored.stored_tags, Stored.write_faults}
use Rattle.rules.specs.{Stored.rounding_from, Stored.allowance_from, Stored.after_catalogue, Stored.after_rounding, Stored.stored_policy, Stored.stored_bank}
use Rattle.rules.specs.{Stored.request_form, declared.records.KernelInput.KernelInput, declared.records.PolicySnapshot.PolicySnapshot}
use Rattle.endian.proofs.Numbers.{Small}
use Rattle.packing.proofs.{Layouts.Fitting, Trips.PolicyFits, Trips.length-numbers, Trips.length_input, Trips.numbers_back, Trips.input_back}
use Rattle.packing.proofs.Trips.{with-rounding, with-allowance, numbers-forth, input_forth}
use Rattle.rules.proofs.Faults.{below_none, equal_none, none_after, none_first, room_enough}
use Rattle.stored_fields.proofs.Lengths.{fits_bank}
use Rattle.stored_layout.proofs.{Passing.Passed, Passing.body_length_lem, Forms.form-passed, Lengths.policy_length, Lengths.request_length}
use Rattle.stored.proofs.{Reading.catalog_fields, Trips.form_passes, Trips.body_back, Trips.rest_back, Trips.written-passes, Trips.last-body}
use Rattle.stored.proofs.{Trips.last-passes, Trips.last-form, Trips.small_body, Trips.small_after, Trips.field_forth, Trips.last_forth}
use Rattle.stored.proofs.Optional.{optional-passes, optional-rounding, optional-allowance, optional_forth}

-- ---- a bank that writing takes

-- So many bytes are whole records, and not too many to store
pub record Storable (n : ℕ) : Type 0 where
  pub even : n % record_bytes ≡ 0
  pub few : records_in n ≤ max_stored_models

pub storable_written : (p : PolicySnapshot) (bank : List ℕ) (room : ℕ) → write_faults p bank room ≡ [] → Storable (length bank)
unfolding write_faults length_faults
storable_written p bank room e =
    let n = length bank in
    let own = refuse_if (not (eqb (n % record_bytes) 0)) (fault 1) in
    let large = refuse_if (ltb max_catalog_models (records_in n)) (fault 2) in
    let many = refuse_if (ltb max_stored_models (records_in n)) (fault 18) in
    let tests : own ++ large ++ many ≡ [] = none_first (own ++ large ++ many) _ e in
    record {
      even = equal_none (n % record_bytes) 0 (fault 1) (none_first own large (none_first (own ++ large) many tests));
      few = below_none max_stored_models (records_in n) (fault 18) (none_after (own ++ large) many tests);
    }

pub storable_none : (p : PolicySnapshot) (bank : List ℕ) (room : ℕ) → Storable (length bank) → length (stored_form p bank) ≤ room → write_faults p bank room ≡ []
unfolding write_faults length_faults
storable_none p bank room s h =
    rw (
      eq-eqb (length bank % record_bytes) 0 s.even,
      le-ltb max_catalog_models (records_in (length bank)) (omega (arith, s.few)),
      le-ltb max_stored_models (records_in (length bank)) s.few,
    )
    (room_enough (length (stored_form p bank)) room h)

fits_storable : (n : ℕ) → Storable n → fits 2 n ≡ true
unfolding fits equal
fits_storable n s = rw (eq-eqb (n % 47) 0 s.even, le-leb (records_in n) 1394 s.few)

-- ---- a policy with its bank

module _ (p : PolicySnapshot) (bank : List ℕ) (s : Storable (length bank)) where
  short : length bank < 65536
  short = omega (arith, s.even, s.few)

  -- the form as its first field, and what stands after it
  opened : stored_form p bank ≡ field_bytes 1 (policy_number_bytes p) ++ (field_bytes 2 bank ++ optional_fields p)
  unfolding stored_form
  opened = append_assoc (field_bytes 1 (policy_number_bytes p)) (field_bytes 2 bank) (optional_fields p)

  after-policy : after_of (stored_form p bank) ≡ field_bytes 2 bank ++ optional_fields p
  after-policy = ap after_of opened ∙ rest_back 1 (policy_number_bytes p) _ (omega (arith, length-numbers p))

  after-bank : after_catalogue (stored_form p bank) ≡ optional_fields p
  after-bank = ap after_of after-policy ∙ rest_back 2 bank (optional_fields p) short

  policy-passes : Passed 1 (stored_form p bank)
  unfolding fits equal body_faults
  policy-passes = rw opened (written-passes 1 (policy_number_bytes p) _ (omega (arith, length-numbers p)) (rw (length-numbers p)) refl)

  bank-passes : Passed 2 (after_of (stored_form p bank))
  unfolding body_faults
  bank-passes = rw after-policy (written-passes 2 bank (optional_fields p) short (fits_storable (length bank) s) refl)

  -- WHAT WAS WRITTEN SAYS THE SAME BANK
  pub stored-bank : stored_bank (stored_form p bank) ≡ bank
  stored-bank = ap body_of after-policy ∙ body_back 2 bank (optional_fields p) short

  module _ (fit : PolicyFits p) where
    -- IT PASSES
    pub stored-passes : form_faults stored_tags (stored_form p bank) ≡ []
    stored-passes =
        form_passes 1 (2 ∷ 4 ∷ 5 ∷ []) (stored_form p bank) policy-passes
        (form_passes 2 (4 ∷ 5 ∷ []) (after_of (stored_form p bank)) bank-passes (rw after-bank (optional-passes p fit.1)))

    -- AND SAYS THE SAME POLICY
    pub stored-policy : stored_policy (stored_form p bank) ≡ p
    stored-policy =
        let body : body_of (stored_form p bank) ≡ policy_number_bytes p = ap body_of opened ∙ body_back 1 (policy_number_bytes p) _ (omega (arith, length-numbers p)) in
        let rounding = ap rounding_from after-bank ∙ optional-rounding p in
        let allowance = ap (λ (s : List ℕ). allowance_from (after_due 4 s)) after-bank ∙ optional-allowance p fit.1 in
        (λ i. policy_with (rounding i) (allowance i) (body i)) ∙ numbers_back p fit.0

-- WHAT PASSES IS WRITTEN AS IT WAS
pub stored_forth : (form : List ℕ) → Small form → form_faults stored_tags form ≡ [] → stored_form (stored_policy form) (stored_bank form) ≡ form
unfolding stored_form
stored_forth form small e =
    let first = form-passed 1 (2 ∷ 4 ∷ 5 ∷ []) form refl e in
    let second = form-passed 2 (4 ∷ 5 ∷ []) (after_of form) refl first.1 in
    let rest = small_after form small in
    let r = rounding_from (after_catalogue form) in
    let a = allowance_from (after_rounding form) in
    let policy = numbers-forth r a (body_of form) (small_body form small) (policy_length form first.0) in
    let optional = (λ i. rounding_field (with-rounding r a (body_of form) i) ++ allowance_field (with-allowance r a (body_of form) i))
    ∙ optional_forth (after_catalogue form) (small_after (after_of form) rest) second.1 in
    (λ i. field_bytes 1 (policy i) ++ field_bytes 2 (stored_bank form) ++ optional i)
    ∙ append_assoc (field_bytes 1 (body_of form)) (field_bytes 2 (stored_bank form)) (after_catalogue form)
    ∙ ap (λ (t : List ℕ). field_bytes 1 (body_of form) ++ t) (field_forth 2 (after_of form) rest second.0)
    ∙ field_forth 1 form small first.0

pub storable_read : (form : List ℕ) → form_faults stored_tags form ≡ [] → Storable (length (stored_bank form))
storable_read form e =
    let b = (catalog_fields form e).bank in
    let t = fits_bank _ b.right in
    rw (body_length_lem (after_of form) b.whole) (record { even = t.0; few = t.1 })

-- ---- a request

module _ (q : KernelInput) where
  pub request-passes : form_faults (3 ∷ []) (request_form q) ≡ []
  unfolding request_form fits equal body_faults
  request-passes =
      let short : length (input_bytes q) < 65536 = omega (arith, length_input q) in
      last-form 3 (input_bytes q) short (last-passes 3 (input_bytes q) short (rw (length_input q)) refl)

  pub request-says : Fitting (input_fields q) → SFits w64 q.business_value_microunits → input_of (body_of (request_form q)) ≡ q
  unfolding request_form
  request-says fit sign = ap input_of (last-body 3 (input_bytes q) (omega (arith, length_input q))) ∙ input_back q fit sign

pub request_forth : (form : List ℕ) → Small form → form_faults (3 ∷ []) form ≡ [] → request_form (input_of (body_of form)) ≡ form
unfolding request_form
request_forth form small e =
    let f = form-passed 3 [] form refl e in
    ap (field_bytes 3) (input_forth (body_of form) (small_body form small) (request_length form f.0)) ∙ last_forth 3 form small f.0 f.1
