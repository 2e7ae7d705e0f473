-- ANY TWO PERMITTED ANSWERS ARE EQUAL, and any two permitted buffers, for any text that is handed over. Assumes nothing.
use Rattle.rules.proofs.Kit.{ℕ, ◌+◌, ◌≤◌, List, ◌++◌, ◌≡◌, refl, sym, ap, ◌∙◌, arith, length, length-append, take, drop, take_at}
use Rattle.rules.specs.{Bytes.filled, Refused.Answer, Refused.room_faults, Refused.answered, Refused.unless, Refused.refused, Numbers.told_written}
use Rattle.rules.specs.{Printed.print_of, Printed.print_buffer, declared.refusal.Refusal.Refusal}
use Rattle.std.specs.Prelude.{Result}
use Rattle.rules.proofs.{ToldStored.one_written, Faults.room_enough}
use Rattle.program_deliver.specs.Ends.{end_of}

-- An answer with a buffer at exit, as a promise permits them for a text, and that any two such are equal
abbrev pub Permitted : List ℕ → List ℕ → Result ℕ Refusal → List ℕ → Type 0
Permitted t out r d = (told_written r ≡ print_of t (length out)) × (d ≡ print_buffer t out)

abbrev pub Same : List ℕ → List ℕ → Type 0
Same t out = (r s : Result ℕ Refusal) (d e : List ℕ) → Permitted t out r d → Permitted t out s e → (r ≡ s) × (d ≡ e)

pub one_print : (t out : List ℕ) → Same t out
one_print t out r s d e p q = (one_written (print_of t (length out)) r s p.0 q.0, p.1 ∙ sym q.1)

-- A TEXT THAT FITS IS NEVER REFUSED: it is what stands at the start of the buffer
module _ {a : Answer ℕ} {n : ℕ} {d : List ℕ} (t out : List ℕ) (fits : length t ≤ length out) (told : a ≡ print_of t (length out))
    (buffer : d ≡ print_buffer t out) (ends : n ≡ end_of a) where
  end : n ≡ length t
  unfolding print_of end_of
  end =
      let passed : unless (room_faults (length t) (length out)) refused (answered (length t))
      ≡ answered (length t) = rw (room_enough (length t) (length out) fits) in
      ends ∙ ap end_of (told ∙ passed)

  all : d ≡ t ++ drop (length t) out
  unfolding print_buffer filled
  all = buffer ∙ rw (room_enough (length t) (length out) fits)

  pub printed-whole : take n d ≡ t
  printed-whole = rw (all, end) (take_at t (drop (length t) out) (length t) refl)

  pub printed-counts : (n ≤ length d) × (n ≡ length (take n d))
  printed-counts =
      let long : length d ≡ length t + length (drop (length t) out) = ap length all ∙ length-append t (drop (length t) out) in
      (omega (arith, end), end ∙ sym (ap length printed-whole))
