-- The sentences of refusals as they are put together, and which of them a refusal has. Assumes nothing.
use Rattle.rules.proofs.Kit.{ℕ, ◌≡◌, refl, sym, ap, ◌∙◌, List, [], ◌∷◌, ◌++◌, append_assoc, append-nil}
use Rattle.rules.specs.{Choice.equal, Text.text, Text.decimal, Phrases.sentence, Phrases.about, Phrases.comparing, NotChosen.of_model}
use Rattle.rules.specs.{FaultWords.too_many, FaultWords.field_words, FaultWords.fault_words, Refused.told_refusal}
use Rattle.rules.specs.declared.refusal.Refusal.{Refusal}
use Rattle.rules.specs.declared.refusal.Refusal.TheVariants as refusal
use Rattle.rules.proofs.Choices.{equal-no}
use Rattle.program_refusals.specs.Parts.{provider_words, form_words}

-- ---- pieces

-- TOO MANY BASIS POINTS: the number with its words, the highest, the rest
pub too_many_joins : (name highest : List ℕ) (value : ℕ)
    → about name value (text " basis points; at most ") ++ highest ++ text " are allowed." ≡ too_many name value highest
unfolding too_many about
too_many_joins name highest value =
    let start = name ++ decimal value in
    ap (λ (s : List ℕ). s ++ text " are allowed.") (append_assoc start (text " basis points; at most ") highest)
    ∙ append_assoc start (text " basis points; at most " ++ highest) (text " are allowed.")

-- A SENTENCE ABOUT A MODEL: its name, the words, the line's end
pub model_joins : (id : ℕ) (words : List ℕ) → about (text "Model ") id [] ++ words ++ (10 ∷ []) ≡ of_model id words
unfolding of_model sentence about
model_joins id words = ap (λ (s : List ℕ). s ++ words ++ (10 ∷ [])) (append-nil (text "Model " ++ decimal id))

-- and about its provider, where the two numbers stand in one piece
pub provider_joins : (id provider : ℕ)
    → comparing (text "Model ") id (text " has provider ") provider (text "; providers go from 0 to 63.") ++ (10 ∷ []) ≡ provider_words id provider
unfolding provider_words of_model sentence about comparing
provider_joins id provider =
    let model = text "Model " ++ decimal id in
    let range = text "; providers go from 0 to 63." in
    ap (λ (s : List ℕ). s ++ (10 ∷ []))
    (ap (λ (s : List ℕ). s ++ range) (append_assoc model (text " has provider ") (decimal provider))
    ∙ append_assoc model (text " has provider " ++ decimal provider) range)

-- ---- which words

-- A FIELD'S WORDS, by its number, and those of any other number than 1 to 5
pub said_as : {field k : ℕ} → field ≡ k → (value : ℕ) → field_words k value ≡ field_words field value
said_as e value = ap (λ (f : ℕ). field_words f value) (sym e)

pub last_field : {field : ℕ} → (field ≡ 1 → ⊥) → (field ≡ 2 → ⊥) → (field ≡ 3 → ⊥) → (field ≡ 4 → ⊥) → (field ≡ 5 → ⊥) → (value : ℕ)
    → too_many (text "The policy's risk multiplier is ") value (text "50000") ≡ field_words field value
unfolding field_words
last_field {field} a b c d e value =
    sym
    (equal-no field 1 _ _ a ∙ equal-no field 2 _ _ b ∙ equal-no field 3 _ _ c ∙ equal-no field 4 _ _ d ∙ equal-no field 5 _ _ e)

-- A FORM'S SENTENCE is that of the case it is, and any other case has none
pub formed_as : {r s : Refusal} → r ≡ s → form_words (told_refusal s).number ≡ form_words (told_refusal r).number
formed_as e = ap (λ (x : Refusal). form_words (told_refusal x).number) (sym e)

pub no_form_told : (r : Refusal) → (r ≡ refusal.TooManyForProgram → ⊥) → (r ≡ refusal.CutShort → ⊥) → (r ≡ refusal.WrongTag → ⊥) → (r ≡ refusal.WrongLength → ⊥) → (r ≡ refusal.UnknownRounding → ⊥) → (r ≡ refusal.ZeroAllowance → ⊥)
    → [] ≡ form_words (told_refusal r).number
unfolding form_words equal
no_form_told refusal.TooManyForProgram a b d e f g = absurd (a refl)
no_form_told refusal.CutShort a b d e f g = absurd (b refl)
no_form_told refusal.WrongTag a b d e f g = absurd (d refl)
no_form_told refusal.WrongLength a b d e f g = absurd (e refl)
no_form_told refusal.UnknownRounding a b d e f g = absurd (f refl)
no_form_told refusal.ZeroAllowance a b d e f g = absurd (g refl)
no_form_told _ a b d e f g = refl

-- THE SAME OF A NUMBER, whatever it is
pub no_form : {number : ℕ} → (number ≡ 19 → ⊥) → (number ≡ 20 → ⊥) → (number ≡ 21 → ⊥) → (number ≡ 22 → ⊥) → (number ≡ 23 → ⊥) → (number ≡ 25 → ⊥)
    → [] ≡ form_words number
unfolding form_words
no_form {number} a b c d e f =
    sym
    (equal-no number 19 _ _ a ∙ equal-no number 20 _ _ b ∙ equal-no number 21 _ _ c ∙ equal-no number 22 _ _ d ∙ equal-no number 23 _ _ e
    ∙ equal-no number 25 _ _ f)

-- A REFUSAL'S SENTENCE is that of the case it is
pub told_as : {r s : Refusal} → r ≡ s → (asked : ℕ) → fault_words asked (told_refusal s) ≡ fault_words asked (told_refusal r)
told_as e asked = ap (λ (x : Refusal). fault_words asked (told_refusal x)) (sym e)

-- THE OTHER CASES neither carry values nor speak of the catalogue: a sentence goes by its number alone
pub others : (asked : ℕ) (r : Refusal) → ((x y z : ℕ) → r ≡ refusal.InputOutOfRange x y z → ⊥) → (r ≡ refusal.UnknownModel → ⊥)
    → ((x y : ℕ) → r ≡ refusal.PolicyOutOfRange x y → ⊥) → (r ≡ refusal.EmptyCatalog → ⊥) → ((x : ℕ) → r ≡ refusal.DuplicateModelId x → ⊥)
    → ((x y : ℕ) → r ≡ refusal.InvalidProviderId x y → ⊥) → ((x y z : ℕ) → r ≡ refusal.ModelOutOfRange x y z → ⊥)
    → (r ≡ refusal.NoEnabledModels → ⊥) → form_words (told_refusal r).number ≡ fault_words asked (told_refusal r)
unfolding form_words fault_words equal
others asked (refusal.InputOutOfRange x y z) a b d e f g h k = absurd (a x y z refl)
others asked refusal.UnknownModel a b d e f g h k = absurd (b refl)
others asked (refusal.PolicyOutOfRange x y) a b d e f g h k = absurd (d x y refl)
others asked refusal.EmptyCatalog a b d e f g h k = absurd (e refl)
others asked (refusal.DuplicateModelId x) a b d e f g h k = absurd (f x refl)
others asked (refusal.InvalidProviderId x y) a b d e f g h k = absurd (g x y refl)
others asked (refusal.ModelOutOfRange x y z) a b d e f g h k = absurd (h x y z refl)
others asked refusal.NoEnabledModels a b d e f g h k = absurd (k refl)
others asked _ a b d e f g h k = refl
