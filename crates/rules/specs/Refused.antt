-- Document 01, "Numbers handed back": a refusal's number with its values, the tests of a call, and its answer.
use Rattle.std.specs.Prelude.{ℕ, ◌%◌, Bool, true, false, not, List, [], ◌∷◌, ◌++◌, eqb, ltb, length, Result, Ok, Err, ⊤}
use Rattle.std.proofs.Math.Option.{Option, none, some}
use Rattle.rules.specs.Limits.{record_bytes, max_catalog_models}
use Rattle.rules.specs.Bytes.{filled}
use Rattle.rules.specs.Records.{records_in}
use Rattle.rules.specs.declared.refusal.Refusal.{Refusal}
use Rattle.rules.specs.declared.refusal.Refusal.TheVariants as refusal

-- ---- refusals

-- A number handed back, with its values; a value that the number doesn't carry is 0
pub record Fault : Type 0 where
  pub number : ℕ
  pub field : ℕ
  pub value : ℕ
  pub id : ℕ
  pub place : ℕ

-- A number alone
abbrev pub fault : ℕ → Fault
fault n = record { number = n; field = 0; value = 0; id = 0; place = 0 }

-- N27. Those that carry values: 3, 10, and 12, 13, 14 and 17 of a model
abbrev pub input_fault : ℕ → ℕ → ℕ → Fault
input_fault field value place = record { number = 3; field = field; value = value; id = 0; place = place }

abbrev pub policy_fault : ℕ → ℕ → Fault
policy_fault field value = record { number = 10; field = field; value = value; id = 0; place = 0 }

abbrev pub model_fault : ℕ → ℕ → ℕ → ℕ → Fault
model_fault n field id value = record { number = n; field = field; value = value; id = id; place = 0 }

-- N27. Each refusal's number, with what it carries
abbrev pub told_refusal : Refusal → Fault
told_refusal refusal.UnevenBank = fault 1
told_refusal refusal.CatalogTooLarge = fault 2
told_refusal (refusal.InputOutOfRange field value place) = input_fault field value place
told_refusal refusal.NoRoom = fault 4
told_refusal refusal.UnknownModel = fault 5
told_refusal refusal.NothingSelected = fault 6
told_refusal refusal.NotEligible = fault 7
told_refusal refusal.BeyondBank = fault 8
told_refusal (refusal.PolicyOutOfRange field value) = policy_fault field value
told_refusal refusal.EmptyCatalog = fault 11
told_refusal (refusal.DuplicateModelId id) = model_fault 12 0 id 0
told_refusal (refusal.InvalidProviderId id provider) = model_fault 13 0 id provider
told_refusal (refusal.ModelOutOfRange field id value) = model_fault 14 field id value
told_refusal refusal.NoEnabledModels = fault 15
told_refusal refusal.ReservedModelId = fault 16
told_refusal (refusal.InvalidEnabledFlag id value) = model_fault 17 0 id value
told_refusal refusal.TooManyToStore = fault 18
told_refusal refusal.TooManyForProgram = fault 19
told_refusal refusal.CutShort = fault 20
told_refusal refusal.WrongTag = fault 21
told_refusal refusal.WrongLength = fault 22
told_refusal refusal.UnknownRounding = fault 23
told_refusal refusal.ZeroAllowance = fault 25
told_refusal refusal.EpochSpent = fault 27
told_refusal refusal.NoFreeSlot = fault 28
told_refusal refusal.SlotNotClear = fault 34

-- What a call that answers nothing else tells: nothing where it is Ok, else its refusal's number
abbrev pub no_fault : Option Fault
no_fault = none

unfoldable pub told_outcome : Result ⊤ Refusal → Option Fault
told_outcome (Ok _) = no_fault
told_outcome (Err r) = some (told_refusal r)

-- The tests of a call are lists: empty, or what its tests hand back. Joined in document 01's order, the first one counts
abbrev pub Faults : Type 0
Faults = List Fault

-- N28. A test: the fault where it holds
abbrev pub refuse_if : Bool → Fault → Faults
refuse_if true f = f ∷ []
refuse_if false f = []

-- N28. The first fault; none where no test hands one back
unfoldable pub first_fault : Faults → Option Fault
first_fault [] = no_fault
first_fault (f ∷ fs) = some f

-- N28. Of what two tests tell, one after the other, the first
unfoldable pub or_else : Option Fault → Option Fault → Option Fault
or_else none later = later
or_else (some f) later = some f

-- N28. What the first fault is told as, or the answer where there is none
abbrev pub unless : {A : Type 0} → Faults → (Fault → A) → A → A
unless [] told a = a
unless (f ∷ fs) told a = told f

-- N1, N2. A bank whose length is no multiple of a record's; one with too many records
unfoldable pub length_faults : ℕ → Faults
length_faults n = refuse_if (not (eqb (n % record_bytes) 0)) (fault 1) ++ refuse_if (ltb max_catalog_models (records_in n)) (fault 2)

abbrev pub bank_faults : List ℕ → Faults
bank_faults bank = length_faults (length bank)

-- N22. Bytes that come in with another length than theirs
unfoldable pub size_faults : ℕ → ℕ → Faults
size_faults have want = refuse_if (not (eqb have want)) (fault 22)

-- N4. A list, row or buffer with so much room, where so much is needed
unfoldable pub room_faults : ℕ → ℕ → Faults
room_faults needed room = refuse_if (ltb room needed) (fault 4)

-- B9, N24. A list, row or buffer at exit: filled, or as it was where there is a fault
abbrev pub list_unless : {A : Type 0} → Faults → List A → List A → List A
list_unless fs new list = unless fs (λ f. list) (filled new list)

-- ---- answers

-- The answer of a call: a refusal, or what it answers
pub data Answer (A : Type 0) : Type 0 where
  refused : Fault → Answer A
  answered : A → Answer A

-- What an answer tells, where it is told what stands in it
abbrev pub told_answer : {A B : Type 0} → (A → B) → Result A Refusal → Answer B
told_answer told (Ok a) = answered (told a)
told_answer told (Err r) = refused (told_refusal r)
