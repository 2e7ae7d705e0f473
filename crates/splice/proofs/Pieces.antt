-- Pieces written into a buffer: none, one, and one more; and what stands there then. Assumes nothing.
use Rattle.rules.proofs.Kit.{ℕ, ◌+◌, ◌≤◌, ◌≡◌, refl, sym, ap, subst, ◌∙◌, Bool, true, false, cond, List, [], ◌++◌, Option, none, some}
use Rattle.rules.proofs.Kit.{Option·some-injective, Option·none-ne-some, arith, zero-add, add-zero, length, take, drop, length-append}
use Rattle.rules.proofs.Kit.{take-append-drop, leb, take_at, leb-true}
use Rattle.rules.specs.{Bytes.filled, Choice.at_least}
use Rattle.endian_writing.specs.Put.{patched}
use Rattle.endian_writing.proofs.Stored.{length-patched, patch_join}
use Rattle.rules.proofs.Choices.{at_least-yes}
use Rattle.splice.specs.Placed.{placed}

-- What a writer's promise says: there was room for the bytes, the next position is the one after them, and the buffer is as it was but for them
pub record Written (before : List ℕ) (at : ℕ) (bytes after : List ℕ) (next : ℕ) : Type 0 where
  pub room : at + length bytes ≤ length before
  pub ends : next ≡ at + length bytes
  pub is : after ≡ patched before at bytes

-- IT SAYS JUST THAT: from the promise to its three parts
pub written : (d : List ℕ) (at : ℕ) (bytes : List ℕ) {e : List ℕ} {next : ℕ} → some (next, e) ≡ placed d at bytes → Written d at bytes e next
unfolding placed at_least
written d at bytes {e} {next} w = go (leb (at + length bytes) (length d)) refl w
  where
    go : (t : Bool) → leb (at + length bytes) (length d) ≡ t
        → ◌≡◌ {A = Option (ℕ × List ℕ)} (some (next, e)) (cond t (some (at + length bytes, patched d at bytes)) none) → Written d at bytes e next
    go true h p =
        let q = Option·some-injective (next, e) (at + length bytes, patched d at bytes) p in
        record { room = leb-true (at + length bytes) (length d) h; ends = ap (λ (x : ℕ × List ℕ). x.0) q; is = ap (λ (x : ℕ × List ℕ). x.1) q }
    go false h p = absurd (Option·none-ne-some (next, e) (sym p))

-- and from the parts to the promise
pub promised : {d e bytes : List ℕ} {at next : ℕ} → Written d at bytes e next → some (next, e) ≡ placed d at bytes
unfolding placed
promised {d} {e} {bytes} {at} {next} w =
    ap (λ (x : ℕ). some (x, e)) w.ends
    ∙ ap (λ (x : List ℕ). some (at + length bytes, x)) w.is
    ∙ sym (at_least-yes (length d) (at + length bytes) _ _ w.room)

-- NOTHING WRITTEN leaves the buffer
pub written_none : (d : List ℕ) (at : ℕ) → at ≤ length d → Written d at [] d at
unfolding patched
written_none d at h = record { room = omega arith; ends = omega arith; is = rw add-zero (sym (take-append-drop at d)) }

-- ONE PIECE, as `put_bytes` promises it
pub written_one : {d e : List ℕ} (at : ℕ) (bytes : List ℕ) → at + length bytes ≤ length d → e ≡ patched d at bytes → Written d at bytes e (at + length bytes)
written_one at bytes room p = record { room = room; ends = omega arith; is = p }

-- The buffer keeps its length
pub written_length : {d e bytes : List ℕ} {at next : ℕ} → Written d at bytes e next → length e ≡ length d
written_length {d} {e} {bytes} {at} w = ap length w.is ∙ length-patched d at bytes w.room

-- ONE PIECE, THEN ANOTHER RIGHT AFTER IT: both are there, one after the other
pub written_then : {d e g a b : List ℕ} {at next last : ℕ} → Written d at a e next → Written e next b g last → Written d at (a ++ b) g last
written_then {d} {e} {g} {a} {b} {at} {next} {last} p q =
    let long : length e ≡ length d = written_length p in
    record {
      room = simp length-append (omega (arith, p.ends, q.room));
      ends = simp length-append (omega (arith, p.ends, q.ends));
      is = rw (q.is, p.is, p.ends) (patch_join d at a b p.room);
    }

-- The same bytes, said otherwise
pub written_as : {d e a b : List ℕ} {at next : ℕ} → Written d at a e next → a ≡ b → Written d at b e next
written_as {d} {e} {a} {b} {at} {next} w p = subst (λ (x : List ℕ). Written d at x e next) p w

pub promised_as : {d e a b : List ℕ} {at next : ℕ} → Written d at a e next → a ≡ b → some (next, e) ≡ placed d at b
promised_as w p = promised (written_as w p)

-- ---- at the start of a buffer

-- WHAT IS WRITTEN AT THE START IS FILLED IN
pub patched_start : (d bytes : List ℕ) → patched d 0 bytes ≡ filled bytes d
unfolding patched filled
patched_start d bytes = rw zero-add

pub written_filled : {d e bytes : List ℕ} {next : ℕ} → Written d 0 bytes e next → e ≡ filled bytes d
written_filled {d} {e} {bytes} w = w.is ∙ patched_start d bytes

-- and is what stands before the next position
pub written_front : {d e bytes : List ℕ} {next : ℕ} → Written d 0 bytes e next → take next e ≡ bytes
unfolding filled
written_front {d} {e} {bytes} {next} w =
    let long : length bytes ≡ next = omega (arith, w.ends) in
    ap (take next) (written_filled w) ∙ take_at bytes (drop (length bytes) d) next long
