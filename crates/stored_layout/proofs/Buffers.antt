-- A call that writes to the start of a lent buffer: filled where nothing refuses, else as it was. Assumes nothing.
use Rattle.rules.proofs.Kit.{ℕ, ◌≡◌, refl, sym, ap, ◌∙◌, List, [], ◌∷◌, arith, length}
use Rattle.rules.specs.{Bytes.filled, Refused.Faults, Refused.list_unless, Refused.told_refusal, Refused.Answer, Refused.refused, Refused.answered}
use Rattle.rules.specs.{Refused.unless, Refused.first_fault, Refused.told_outcome, Refused.told_answer, declared.refusal.Refusal.Refusal}
use Rattle.std.specs.Prelude.{Result, Err, ⊤, IsErrAnd}
use Rattle.rules.proofs.Faults.{unless_none, unless_refused, exit_is}
use Rattle.splice.proofs.Pieces.{written_filled, Written}

-- AN ANSWER tells that nothing refused
pub none_answered : {A : Type 0} (fs : Faults) (a b : A) → unless fs refused (answered a) ≡ answered b → (fs ≡ []) × (a ≡ b)
none_answered [] a b e = (refl, cc)
none_answered (f ∷ fs) a b e = absurd (let z : ◌≡◌ {A = ℕ} 0 1 = cc in omega arith)

-- What was written at the start is filled in, and its length is the answer
pub fills : {d e bytes : List ℕ} {end : ℕ} (fs : Faults) → fs ≡ [] → Written d 0 bytes e end
    → (answered end ≡ unless fs refused (answered (length bytes))) × (e ≡ list_unless fs bytes d)
fills {d} {e} {bytes} {end} fs p w =
    let long : end ≡ length bytes = omega (arith, w.ends) in
    (ap answered long ∙ sym (unless_none fs refused _ p), written_filled w ∙ sym (unless_none fs (λ f. d) (filled bytes d) p))

-- A REFUSAL: it is the answer, and the buffer stays
pub stays : {A : Type 0} {o : Result ⊤ Refusal} {r : Refusal} (fs : Faults) (a : Answer A) (new d : List ℕ) → o ≡ Err r → told_outcome o ≡ first_fault fs
    → (refused (told_refusal r) ≡ unless fs refused a) × (d ≡ list_unless fs new d)
stays fs a new d p e = (sym (unless_refused fs refused a p e), sym (unless_refused fs (λ f. d) (filled new d) p e))

-- as a `?` hands it on
pub exit_stays : {A B : Type 0} (told : A → B) (r : Result A Refusal) (k : Refusal) (fs : Faults) (a : Answer B) (new d : List ℕ) → IsErrAnd r (λ e. e ≡ k)
    → told_outcome (Err k) ≡ first_fault fs → (told_answer told r ≡ unless fs refused a) × (d ≡ list_unless fs new d)
exit_stays told r k fs a new d h e =
    let s = stays fs a new d refl e in
    (ap (told_answer told) (exit_is r k h) ∙ s.0, s.1)
