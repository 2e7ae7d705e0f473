-- What a refusal's word tells: it is never 0, its parts can be read off it, and that of a refusal without values is its number. Assumes nothing.
use Rattle.rules.proofs.Kit.{ℕ, ◌/◌, ◌%◌, ◌^◌, ◌<◌, arith, ◌≡◌, refl, sym, ap, ◌∙◌}
use Rattle.rules.specs.{Choice.equal, Refused.Fault, Refused.told_refusal, declared.refusal.Refusal.Refusal}
use Rattle.rules.proofs.{Told.refusal_from, Told.refusal_back}
use Rattle.export_checks.specs.Checks.{word_at}
use Rattle.rules.specs.declared.refusal.Refusal.TheVariants as refusal

-- The cases that carry values are left out
pub record Plain (r : Refusal) : Type 0 where
  pub input : (x y z : ℕ) → r ≡ refusal.InputOutOfRange x y z → ⊥
  pub policy : (x y : ℕ) → r ≡ refusal.PolicyOutOfRange x y → ⊥
  pub duplicate : (x : ℕ) → r ≡ refusal.DuplicateModelId x → ⊥
  pub provider : (x y : ℕ) → r ≡ refusal.InvalidProviderId x y → ⊥
  pub model : (x y z : ℕ) → r ≡ refusal.ModelOutOfRange x y z → ⊥
  pub flag : (x y : ℕ) → r ≡ refusal.InvalidEnabledFlag x y → ⊥

pub plain_word : (place : ℕ) (r : Refusal) → Plain r → word_at place (told_refusal r) ≡ (told_refusal r).number
unfolding equal
plain_word place refusal.UnevenBank h = refl
plain_word place refusal.CatalogTooLarge h = refl
plain_word place (refusal.InputOutOfRange x y z) h = absurd (h.input x y z refl)
plain_word place refusal.NoRoom h = refl
plain_word place refusal.UnknownModel h = refl
plain_word place refusal.NothingSelected h = refl
plain_word place refusal.NotEligible h = refl
plain_word place refusal.BeyondBank h = refl
plain_word place (refusal.PolicyOutOfRange x y) h = absurd (h.policy x y refl)
plain_word place refusal.EmptyCatalog h = refl
plain_word place (refusal.DuplicateModelId x) h = absurd (h.duplicate x refl)
plain_word place (refusal.InvalidProviderId x y) h = absurd (h.provider x y refl)
plain_word place (refusal.ModelOutOfRange x y z) h = absurd (h.model x y z refl)
plain_word place refusal.NoEnabledModels h = refl
plain_word place refusal.ReservedModelId h = refl
plain_word place (refusal.InvalidEnabledFlag x y) h = absurd (h.flag x y refl)
plain_word place refusal.TooManyToStore h = refl
plain_word place refusal.TooManyForProgram h = refl
plain_word place refusal.CutShort h = refl
plain_word place refusal.WrongTag h = refl
plain_word place refusal.WrongLength h = refl
plain_word place refusal.UnknownRounding h = refl
plain_word place refusal.ZeroAllowance h = refl
plain_word place refusal.EpochSpent h = refl
plain_word place refusal.NoFreeSlot h = refl
plain_word place refusal.SlotNotClear h = refl

-- A REFUSAL'S WORD IS NEVER 0, which says that the call answered: the number 0 would lead back to refusal 1
pub word_some : (place : ℕ) (r : Refusal) → word_at place (told_refusal r) ≡ 0 → ⊥
word_some place r e =
    let none : (told_refusal r).number ≡ 0 = omega (arith, e) in
    let back : refusal_from (told_refusal r) ≡ refusal.UnevenBank = rw none in
    let one : (told_refusal r).number ≡ 1 = ap (λ (x : Refusal). (told_refusal x).number) (sym (refusal_back r) ∙ back) in
    omega arith

-- ITS PARTS CAN BE READ OFF IT, where each fits its bits: so two refusals with one word have one number, field and value, and one id or place
pub word_tells : (place : ℕ) (f : Fault) → f.number < 2 ^ 8 → f.field < 2 ^ 8 → f.value < 2 ^ 16
    → (word_at place f % 256 ≡ f.number) × (word_at place f / 256 % 256 ≡ f.field) × (word_at place f / 65536 % 65536 ≡ f.value)
    × (word_at place f / 4294967296 ≡ equal f.number 3 place f.id)
word_tells place f a b c = (omega arith, omega arith, omega arith, omega arith)
