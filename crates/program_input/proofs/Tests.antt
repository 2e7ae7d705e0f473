-- The parts of an input that passes, and which number refuses one. Assumes nothing.
use Rattle.rules.proofs.Kit.{lt-ltb, le-ltb, eq-eqb, ℕ, ◌/◌, ◌%◌, ◌≤◌, ◌<◌, ◌≡◌, refl, ap, List, [], ◌∷◌, ◌++◌, length, arith}
use Rattle.rules.specs.{Limits.record_bytes, Limits.max_program_models, Limits.max_catalog_models, Records.records_in, Records.listed_of}
use Rattle.rules.specs.{Refused.bank_faults, Refused.length_faults, Refused.first_fault, Refused.told_outcome, Decide.request_faults}
use Rattle.rules.specs.{Validate.catalog_faults, Stored.body_length, Stored.after_of, Stored.after_due, Stored.after_rounding}
use Rattle.rules.specs.{Stored.form_faults, Stored.stored_policy, Stored.stored_bank, Printed.program_tags}
use Rattle.rules.specs.{Printed.program_models, Printed.program_request, Printed.program_faults}
use Rattle.rules.specs.{declared.records.PolicySnapshot.PolicySnapshot, declared.refusal.Refusal.Refusal}
use Rattle.std.specs.Prelude.{Result, Ok, Err, ⊤, IsErrAnd}
use Rattle.rules.proofs.Faults.{none_first, append_refused, exit_outcome}
use Rattle.stored_fields.proofs.Lengths.{fits_bank}
use Rattle.stored_layout.proofs.{Passing.Passed, Passing.body_length_lem, Forms.form-passed, Openings.Opened, Openings.opened}
use Rattle.program_input.specs.Formed.{Formed, formed_faults}
use Rattle.rules.specs.declared.refusal.Refusal.TheVariants as refusal

-- AN INPUT THAT PASSES HAS ITS FIELDS, tags 4 and 5 among them or not
pub fields : (input : List ℕ) → Formed input → Opened (3 ∷ []) input
fields input e = opened (3 ∷ []) input e

pub request_field_lem : (input : List ℕ) → Formed input → Passed 3 (after_due 5 (after_rounding input))
request_field_lem input e = (form-passed 3 [] (after_due 5 (after_rounding input)) refl (fields input e).rest).0

-- and its bank has whole records, no more than a catalogue's
pub bank_whole : (input : List ℕ) → Formed input → bank_faults (stored_bank input) ≡ []
unfolding length_faults
bank_whole input e =
    let p = (fields input e).bank in
    let long = body_length_lem (after_of input) p.whole in
    let size = fits_bank _ p.right in
    rw (
      long,
      eq-eqb (body_length (after_of input) % record_bytes) 0 size.0,
      le-ltb max_catalog_models (body_length (after_of input) / record_bytes) (omega (arith, size.1)),
    )

pub bank_few : (input : List ℕ) → Formed input → records_in (length (stored_bank input)) ≤ max_catalog_models
bank_few input e =
    let p = (fields input e).bank in
    rw (body_length_lem (after_of input) p.whole) (omega (arith, (fits_bank _ p.right).1))

-- ---- the tests, in their order

module _ {bank : List ℕ} (input : List ℕ) (formed : Formed input) (is : bank ≡ stored_bank input) where
  -- 19 AFTER THE FORM: more models than the programs take
  pub many-refused : max_program_models < length bank / record_bytes → told_outcome (Err refusal.TooManyForProgram) ≡ first_fault (formed_faults input)
  unfolding formed_faults told_outcome first_fault
  many-refused h =
      rw (formed, lt-ltb max_program_models (records_in (length (stored_bank input))) (omega (arith, h, ap length is)))

  pub few-pass : length bank / record_bytes ≤ max_program_models → told_outcome (Ok tt) ≡ first_fault (formed_faults input)
  unfolding formed_faults told_outcome first_fault
  few-pass h =
      rw (formed, le-ltb max_program_models (records_in (length (stored_bank input))) (omega (arith, h, ap length is)))

-- An input that passes those is formed
pub formed_whole : (input : List ℕ) → formed_faults input ≡ [] → Formed input
unfolding formed_faults
formed_whole input e = none_first (form_faults program_tags input) _ e

pub program_formed : (input : List ℕ) → program_faults input ≡ [] → Formed input
unfolding program_faults formed_faults
program_formed input e = formed_whole input (none_first (formed_faults input) _ (none_first _ _ e))

-- THE FORM AND 19 COME FIRST
pub formed_refused : (o : Result ⊤ Refusal) (r : Refusal) (input : List ℕ) → IsErrAnd o (λ e. e ≡ r) → told_outcome (Err r) ≡ first_fault (formed_faults input)
    → told_outcome o ≡ first_fault (program_faults input)
unfolding program_faults formed_faults
formed_refused o r input h told =
    exit_outcome o r _ _ h (append_refused (formed_faults input) (catalog_faults (stored_policy input) (program_models input)) refl told)

-- THEN VALIDATION, THEN THE REQUEST
pub program_left : {p : PolicySnapshot} {bank : List ℕ} (input : List ℕ) → formed_faults input ≡ [] → p ≡ stored_policy input → bank ≡ stored_bank input
    → program_faults input ≡ catalog_faults p (listed_of bank) ++ request_faults (program_request input) 0
unfolding program_faults formed_faults
program_left input opens policy models = rw (opens, policy, models)
