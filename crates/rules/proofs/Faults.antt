-- Lists of faults: the first one, what stands beside it, and what a test that finds none tells. Assumes nothing.
use Rattle.rules.proofs.Kit.{ℕ, ◌/◌, ◌%◌, ◌≤◌, ◌<◌, ◌≡◌, refl, sym, ap, ap₂, ◌∙◌, Bool, true, false, not, List, [], ◌∷◌, ◌++◌, Option, arith, eqb-true}
use Rattle.rules.proofs.Kit.{ltb-false, not-false, lt-ltb, le-ltb, eqb, ltb, length}
use Rattle.rules.specs.{Refused.Fault, Refused.fault, Refused.no_fault, Refused.Faults, Refused.refuse_if, Refused.first_fault, Refused.or_else}
use Rattle.rules.specs.{Refused.unless, Refused.told_refusal, Refused.told_outcome, Refused.length_faults, Refused.room_faults}
use Rattle.rules.specs.{declared.refusal.Refusal.Refusal, declared.refusal.Refusal.TheVariants.NoRoom, Limits.record_bytes}
use Rattle.std.specs.Prelude.{Result, Ok, Err, ⊤, IsErrAnd}
use Rattle.std.proofs.lemmas.Result.{err_from_is_err_and}
use Rattle.rules.specs.{Refused.Answer, Refused.refused, Refused.answered, Refused.told_answer}
use Rattle.rules.specs.{Records.listed_of, Trust.reserved_faults, Trust.flag_faults, Trust.early_faults}

-- A fault is not none
pub some_fault : {A B : Type 0} {x : A} {xs : List A} → x ∷ xs ≡ [] → B
some_fault e = absurd (let z : ◌≡◌ {A = ℕ} 0 1 = cc in omega arith)

-- WHERE THE WHOLE HAS NONE, neither the first part nor the rest has one
pub none_first : {A : Type 0} (xs ys : List A) → xs ++ ys ≡ [] → xs ≡ []
none_first [] ys e = refl
none_first (x ∷ xs) ys e = some_fault e

pub none_after : {A : Type 0} (xs ys : List A) → xs ++ ys ≡ [] → ys ≡ []
none_after [] ys e = e
none_after (x ∷ xs) ys e = some_fault e

-- A TEST THAT FINDS NONE tells what it tested
pub test_none : (t : Bool) (f : Fault) → refuse_if t f ≡ [] → t ≡ false
test_none false f e = refl
test_none true f e = some_fault e

pub below_none : (a b : ℕ) (f : Fault) → refuse_if (ltb a b) f ≡ [] → b ≤ a
below_none a b f e = ltb-false a b (test_none (ltb a b) f e)

pub equal_none : (a b : ℕ) (f : Fault) → refuse_if (not (eqb a b)) f ≡ [] → a ≡ b
equal_none a b f e = eqb-true a b (not-false (eqb a b) (test_none (not (eqb a b)) f e))

-- WHERE THERE IS NO FIRST ONE there is none, and the answer stands
pub none_found : (fs : Faults) → first_fault fs ≡ no_fault → fs ≡ []
unfolding first_fault
none_found [] e = refl
none_found (f ∷ fs) e = cc

pub unless_none : {A : Type 0} (fs : Faults) (told : Fault → A) (a : A) → fs ≡ [] → unless fs told a ≡ a
unless_none fs told a e = rw e

-- ---- an outcome that tells the first fault

-- WHERE IT ANSWERS, there is none: the answer stands, and what is tested after it decides
pub none_told : {o : Result ⊤ Refusal} (fs : Faults) → o ≡ Ok tt → told_outcome o ≡ first_fault fs → fs ≡ []
unfolding told_outcome
none_told fs e h = none_found fs (sym h ∙ ap told_outcome e)

pub unless-passed : {A : Type 0} {o : Result ⊤ Refusal} (fs : Faults) (told : Fault → A) (a : A) → o ≡ Ok tt → told_outcome o ≡ first_fault fs → unless fs told a ≡ a
unless-passed fs told a e h = unless_none fs told a (none_told fs e h)

pub append-passed : {o : Result ⊤ Refusal} (fs gs : Faults) → o ≡ Ok tt → told_outcome o ≡ first_fault fs → first_fault (fs ++ gs) ≡ first_fault gs
append-passed fs gs e h = rw (none_told fs e h)

-- WHERE IT REFUSES, its refusal is the first, whatever is tested after it
pub unless_refused : {A : Type 0} {o : Result ⊤ Refusal} {r : Refusal} (fs : Faults) (told : Fault → A) (a : A) → o ≡ Err r → told_outcome o ≡ first_fault fs
    → unless fs told a ≡ told (told_refusal r)
unfolding first_fault told_outcome
unless_refused [] told a e h = let k = sym (ap told_outcome e) ∙ h in cc
unless_refused (f ∷ fs) told a e h = let k = sym (ap told_outcome e) ∙ h in cc

pub append_refused : {o : Result ⊤ Refusal} {r : Refusal} (fs gs : Faults) → o ≡ Err r → told_outcome o ≡ first_fault fs
    → told_outcome (Err r) ≡ first_fault (fs ++ gs)
unfolding first_fault told_outcome
append_refused [] gs e h = let k = sym (ap told_outcome e) ∙ h in cc
append_refused (f ∷ fs) gs e h = sym (ap told_outcome e) ∙ h

-- WHAT A `?` HANDS ON is the refusal that it met
pub exit_is : {A : Type 0} (r : Result A Refusal) (k : Refusal) → IsErrAnd r (λ e. e ≡ k) → r ≡ Err k
exit_is r k h = let p = err_from_is_err_and r h in p.1 ∙ ap Err p.2

-- of a test: the first fault of a list that goes on
pub exit_outcome : (r : Result ⊤ Refusal) (k : Refusal) (fs gs : Faults) → IsErrAnd r (λ e. e ≡ k) → told_outcome (Err k) ≡ first_fault fs
    → told_outcome r ≡ first_fault (fs ++ gs)
exit_outcome r k fs gs h told = ap told_outcome (exit_is r k h) ∙ append_refused fs gs refl told

-- of a call: what the first fault is told as
pub exit_answer : {A B : Type 0} (told : A → B) (r : Result A Refusal) (k : Refusal) (fs : Faults) (b : Answer B) → IsErrAnd r (λ e. e ≡ k)
    → told_outcome (Err k) ≡ first_fault fs → told_answer told r ≡ unless fs refused b
exit_answer told r k fs b h first = ap (told_answer told) (exit_is r k h) ∙ sym (unless_refused fs refused b refl first)

-- WHAT GOES ON AFTER A `?` has met no fault
pub passed : {u : ⊤} (fs : Faults) → told_outcome (Ok u) ≡ first_fault fs → fs ≡ []
passed fs h = none_told fs refl h

pub passed_answer : {B : Type 0} {u : ⊤} (fs : Faults) (a b : B) → told_outcome (Ok u) ≡ first_fault fs → a ≡ b → answered a ≡ unless fs refused (answered b)
passed_answer fs a b h e = ap answered e ∙ sym (unless-passed fs refused (answered b) refl h)

-- A call that is handed on whole, after tests that passed
pub passed_call : {A : Type 0} {u : ⊤} (fs : Faults) (a b : Answer A) → told_outcome (Ok u) ≡ first_fault fs → a ≡ b → a ≡ unless fs refused b
passed_call fs a b h e = e ∙ sym (unless-passed fs refused b refl h)

-- OF TWO, ONE AFTER THE OTHER, the first that refuses tells the first fault of both lists
pub first_joined : (fs gs : Faults) → first_fault (fs ++ gs) ≡ or_else (first_fault fs) (first_fault gs)
unfolding first_fault or_else
first_joined [] gs = refl
first_joined (f ∷ fs) gs = refl

pub joined_told : {o p q : Option Fault} (fs gs : Faults) → o ≡ or_else p q → p ≡ first_fault fs → q ≡ first_fault gs → o ≡ first_fault (fs ++ gs)
joined_told fs gs r e h = r ∙ ap₂ or_else e h ∙ sym (first_joined fs gs)

-- ---- room and length

-- THE ROOM suffices exactly where it has no fault
pub room_passed : (needed room : ℕ) → room_faults needed room ≡ [] → needed ≤ room
unfolding room_faults
room_passed needed room e = below_none room needed (fault 4) e

pub room_enough : (needed room : ℕ) → needed ≤ room → room_faults needed room ≡ []
unfolding room_faults
room_enough needed room h = rw (le-ltb room needed h)

pub room_short : (needed room : ℕ) → room < needed → told_outcome (Err NoRoom) ≡ first_fault (room_faults needed room)
unfolding room_faults told_outcome first_fault
room_short needed room h = rw (lt-ltb room needed h)

-- A LENGTH WITHOUT FAULT is one of whole records, at most 65,535
pub whole_length : (n : ℕ) → length_faults n ≡ [] → n % 47 ≡ 0
unfolding length_faults
whole_length n e = equal_none (n % 47) 0 (fault 1) (none_first _ _ e)

pub few_records : (n : ℕ) → length_faults n ≡ [] → n / 47 ≤ 65535
unfolding length_faults
few_records n e = below_none 65535 (n / 47) (fault 2) (none_after (refuse_if (not (eqb (n % 47) 0)) (fault 1)) _ e)

pub bank_room : {o : Result ⊤ Refusal} (n : ℕ) → o ≡ Ok tt → told_outcome o ≡ first_fault (length_faults n) → n / 47 ≤ 65535
bank_room n e h = few_records n (none_told _ e h)

pub checked_room : {o : Result ⊤ Refusal} (n : ℕ) (gs : Faults) → o ≡ Ok tt → told_outcome o ≡ first_fault (length_faults n ++ gs) → n / 47 ≤ 65535
checked_room n gs e h = few_records n (none_first _ gs (none_told _ e h))

-- WHAT IS TESTED BEFORE THE ORDERING passes only banks of whole records
pub early_whole : (bank : List ℕ) → early_faults bank ≡ [] → length bank % record_bytes ≡ 0
unfolding early_faults
early_whole bank none =
    whole_length (length bank) (none_first (length_faults (length bank)) (reserved_faults (listed_of bank)) (none_first _ (flag_faults (listed_of bank)) none))
