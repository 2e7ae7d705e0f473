-- A text with its length before it: what stands in the buffer once the text was printed after the room for its length. Assumes nothing.
use Rattle.rules.proofs.Kit.{ℕ, ◌+◌, ◌-◌, ◌<◌, ◌≤◌, ◌≡◌, refl, sym, ap, ◌∙◌, Bool, true, false, List, [], ◌∷◌, ◌++◌, append_assoc, append-nil, arith, ltb-true}
use Rattle.rules.proofs.Kit.{ltb-false, lt-ltb, le-ltb, ltb, length, take, drop, length-append, length-drop, take-append-drop, drop_of_length-le, drop_at}
use Rattle.rules.proofs.Kit.{drop-drop, length-take-le}
use Rattle.rules.specs.{Bytes.bytes_of, Bytes.filled, Refused.fault, Refused.room_faults, Refused.Answer, Refused.refused, Refused.answered, Printed.print_of}
use Rattle.rules.specs.{Printed.print_buffer}
use Rattle.rules.proofs.Faults.{room_enough}
use Rattle.endian_writing.proofs.Bytes.{length_bytes}
use Rattle.export_checks.specs.Checks.{word_size}
use Rattle.export_checks.proofs.{Tests.room_first, Handed.first_handed, Handed.answer-delivered}
use Rattle.export_texts.specs.Texts.{text_faults, text_bytes, text_call, headed}
use Rattle.stored_layout.proofs.Forms.{to_end}

-- No room for the length
pub text_short : (t : List ℕ) (room : ℕ) → room < word_size → text_faults t room ≡ fault 4 ∷ []
text_short t room h = room_first (word_size + length t) room (omega arith)

module _ (t out : List ℕ) (h : word_size ≤ length out) where
  -- The text had no room: what was lent came back as it was
  put_back : take word_size out ++ (drop word_size out ++ []) ≡ out
  put_back = ap (λ (s : List ℕ). take word_size out ++ s) (append-nil (drop word_size out)) ∙ take-append-drop word_size out

  -- It had room: with its length put before it, it is filled in
  put-before : filled (bytes_of word_size (length t)) (take word_size out ++ (filled t (drop word_size out) ++ [])) ≡ filled (text_bytes t) out
  unfolding filled
  put-before =
      ap (λ (s : List ℕ). bytes_of word_size (length t) ++ s) after_length
      ∙ sym (append_assoc (bytes_of word_size (length t)) t (drop (length (text_bytes t)) out))
    where
      long : length (text_bytes t) ≡ word_size + length t
      long = length-append (bytes_of word_size (length t)) t ∙ ap (λ (n : ℕ). n + length t) (length_bytes word_size (length t))

      after_length : drop (length (bytes_of word_size (length t))) (take word_size out ++ ((t ++ drop (length t) (drop word_size out)) ++ [])) ≡ t
          ++ drop (length (text_bytes t)) out
      after_length =
          ap (λ (n : ℕ). drop n (take word_size out ++ ((t ++ drop (length t) (drop word_size out)) ++ []))) (length_bytes word_size (length t))
          ∙ drop_at (take word_size out) ((t ++ drop (length t) (drop word_size out)) ++ []) word_size (length-take-le word_size out h)
          ∙ append-nil (t ++ drop (length t) (drop word_size out))
          ∙ ap (λ (s : List ℕ). t ++ s) (drop-drop (length t) word_size out ∙ ap (λ (n : ℕ). drop n out) (sym long))

  -- WHAT IS LEFT of the buffer, whether the text had room or not
  pub text-so : {told : Answer ℕ} {ys : List ℕ} {p : ℕ × List ℕ} → told ≡ print_of t (length (take (length out - word_size) (drop word_size out)))
      → ys ≡ print_buffer t (take (length out - word_size) (drop word_size out))
      → p ≡ headed told (take word_size out ++ (ys ++ drop (length out - word_size) (drop word_size out))) → p ≡ text_call t out
  unfolding print_of print_buffer room_faults
  text-so {told} {ys} {p} a b c =
      go (ltb (length out) (word_size + length t)) refl (rw whole at a) (rw whole at b) (rw rest at c)
    where
      whole : take (length out - word_size) (drop word_size out) ≡ drop word_size out
      whole = to_end out word_size

      rest : drop (length out - word_size) (drop word_size out) ≡ []
      rest = drop_of_length-le (drop word_size out) {i = length out - word_size} (omega (arith, length-drop word_size out))

      go : (s : Bool) → ltb (length out) (word_size + length t) ≡ s → told ≡ print_of t (length (drop word_size out)) → ys ≡ print_buffer t (drop word_size out)
          → p ≡ headed told (take word_size out ++ (ys ++ [])) → p ≡ text_call t out
      go true e x y r =
          let few = ltb-true (length out) (word_size + length t) e in
          let less : length (drop word_size out) < length t = omega (arith, few, length-drop word_size out) in
          let none : told ≡ refused (fault 4) = x ∙ rw (lt-ltb (length (drop word_size out)) (length t) less) in
          let kept : ys ≡ drop word_size out = y ∙ rw (lt-ltb (length (drop word_size out)) (length t) less) in
          rw (none, kept, put_back) at r ∙ first_handed _ _ _ _ (room_first (word_size + length t) (length out) few) refl
      go false e x y r =
          let many = ltb-false (length out) (word_size + length t) e in
          let more : length t ≤ length (drop word_size out) = omega (arith, many, length-drop word_size out) in
          let some : told ≡ answered (length t) = x ∙ rw (le-ltb (length (drop word_size out)) (length t) more) in
          let put : ys ≡ filled t (drop word_size out) = y ∙ rw (le-ltb (length (drop word_size out)) (length t) more) in
          answer-delivered _ _ _ _ (room_enough (word_size + length t) (length out) many) refl (rw (some, put, put-before) at r)
