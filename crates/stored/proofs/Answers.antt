-- ANY TWO PERMITTED ANSWERS ARE EQUAL, and any two permitted buffers, for each call that a user makes. Assumes nothing.
use Rattle.rules.proofs.Kit.{List, ◌≡◌, sym, ◌∙◌, ℕ, length}
use Rattle.rules.specs.{Numbers.told_stored, Numbers.told_request, Numbers.told_written, Stored.write_stored_of, Stored.write_stored_buffer, Stored.read_stored_of}
use Rattle.rules.specs.{Stored.read_stored_buffer, Stored.write_request_of, Stored.write_request_buffer, Stored.read_request_of}
use Rattle.rules.specs.{declared.records.KernelInput.KernelInput, declared.records.PolicySnapshot.PolicySnapshot, declared.refusal.Refusal.Refusal}
use Rattle.std.specs.Prelude.{Result}
use Rattle.rules.proofs.{Told.Determined, ToldStored.one_stored, ToldStored.one_request, ToldStored.one_written}

-- an answer with a buffer at exit, as a promise permits them, and that any two such are equal
abbrev pub Permitted : {A B : Type 0} → (A → B) → B → List ℕ → A → List ℕ → Type 0
Permitted told rule buffer r d = (told r ≡ rule) × (d ≡ buffer)

abbrev pub Same : {A B : Type 0} → (A → B) → B → List ℕ → Type 0
Same {A} told rule buffer = (r s : A) (d e : List ℕ) → Permitted told rule buffer r d → Permitted told rule buffer s e → (r ≡ s) × (d ≡ e)

one_pair : {A B : Type 0} (told : A → B) → Determined told → (rule : B) (buffer : List ℕ) → Same told rule buffer
one_pair told one rule buffer r s d e p q = (one rule r s p.0 q.0, p.1 ∙ sym q.1)

pub one_write_stored : (p : PolicySnapshot) (bank out : List ℕ) → Same told_written (write_stored_of p bank (length out)) (write_stored_buffer p bank out)
one_write_stored p bank out = one_pair told_written one_written _ _

pub one_read_stored : (form buffer : List ℕ) → Same told_stored (read_stored_of form (length buffer)) (read_stored_buffer form buffer)
one_read_stored form buffer = one_pair told_stored one_stored _ _

pub one_write_request : (q : KernelInput) (out : List ℕ) → Same told_written (write_request_of q (length out)) (write_request_buffer q out)
one_write_request q out = one_pair told_written one_written _ _

pub one_read_request : (form : List ℕ) (r s : Result KernelInput Refusal) → told_request r ≡ read_request_of form → told_request s ≡ read_request_of form → r ≡ s
one_read_request form = one_request (read_request_of form)
