-- Rooms written one after the other, right after what stands before them. Assumes nothing.
use Rattle.rules.proofs.Kit.{ℕ, ◌+◌, ◌≤◌, ◌<◌, add-one, ap, take, take-suc, take-length, map-append, ◌≡◌, sym, ◌∙◌, List, [], ◌∷◌, ◌++◌, map, append_assoc, append-nil, arith, zero-add, length, get_or, replicate}
use Rattle.rules.proofs.Kit.{length-append, drop_of_length-le}
use Rattle.rules.specs.{Bytes.filled, Numbers.Entry, Numbers.told_entry, Numbers.Boundary, declared.boundary.Requirement.Requirement}
use Rattle.endian_writing.specs.Put.{patched}
use Rattle.endian_writing.proofs.Stored.{patch_join}
use Rattle.packing.proofs.Layouts.{length-packed}
use Rattle.splice.proofs.Pieces.{patched_start, Written, written_then, written_length, written_filled}
use Rattle.export_decision_bytes.specs.Layout.{uncounted_bytes}
use Rattle.export_boundary_bytes.specs.Layout.{lever_bytes, rooms_bytes, head_bytes, boundary_size}

pub length_lever : (e : Entry) → length (lever_bytes e) ≡ 26
unfolding lever_bytes
length_lever e = length-packed _

-- A DECISION AT THE START OF AN ARRAY, AND WHAT STANDS AFTER IT, fill in what stands before the rooms
pub laid_head : {d e alone head : List ℕ} (z : List ℕ) (b : Boundary) → alone ≡ uncounted_bytes b.decision → head ≡ head_bytes b
    → d ≡ patched z 0 alone → e ≡ patched d 65 head → 65 ≤ length z → e ≡ filled (uncounted_bytes b.decision ++ head_bytes b) z
unfolding uncounted_bytes
laid_head {d} {e} {alone} {head} z b is told first then room =
    let size : 0 + length (uncounted_bytes b.decision) ≡ 65 = rw (zero-add, length-packed) in
    let join = rw size at (patch_join z 0 (uncounted_bytes b.decision) (head_bytes b) (omega arith)) in
    rw (then, first, is, told) (join ∙ patched_start z _)

-- WHAT STANDS BEFORE THE ROOMS, filled into an array of the answer's size
length_head : (b : Boundary) → length (uncounted_bytes b.decision ++ head_bytes b) ≡ 79
unfolding uncounted_bytes
length_head b = rw (length-append, length-packed, length-packed)

pub written_head : {d : List ℕ} (b : Boundary) → d ≡ filled (uncounted_bytes b.decision ++ head_bytes b) (replicate boundary_size 0)
    → Written (replicate boundary_size 0) 0 (uncounted_bytes b.decision ++ head_bytes b) d 79
written_head b e =
    let size = length_head b in
    record { room = omega arith; ends = omega arith; is = e ∙ sym (patched_start _ _) }

-- rooms, and one more
rooms_more : (es : List Entry) (e : Entry) → rooms_bytes (es ++ (e ∷ [])) ≡ rooms_bytes es ++ lever_bytes e
unfolding rooms_bytes
rooms_more [] e = append-nil (lever_bytes e)
rooms_more (d ∷ es) e = ap (λ b. lever_bytes d ++ b) (rooms_more es e) ∙ sym (append_assoc (lever_bytes d) (rooms_bytes es) (lever_bytes e))

-- the rooms of the first i levers
abbrev pub rooms : List Requirement → ℕ → List ℕ
rooms rs i = rooms_bytes (map told_entry (take i rs))

rooms-next : (rs : List Requirement) (i : ℕ) (r : Requirement) → i < length rs → rooms rs (i + 1) ≡ rooms rs i ++ lever_bytes (told_entry (get_or rs i r))
rooms-next rs i r h = rw (add-one, take-suc rs i r h, map-append) (rooms_more (map told_entry (take i rs)) (told_entry (get_or rs i r)))

-- NO ROOM YET
pub rooms_none : {z d head : List ℕ} {at : ℕ} (rs : List Requirement) → Written z 0 head d at → Written z 0 (head ++ rooms rs 0) d at
unfolding rooms_bytes
rooms_none rs w = rw append-nil w

-- ONE ROOM MORE
pub room_more : {z d out lever : List ℕ} {at : ℕ} (head : List ℕ) (rs : List Requirement) (i : ℕ) (r : Requirement) → lever ≡ lever_bytes (told_entry (get_or rs i r))
    → i < length rs → Written z 0 (head ++ rooms rs i) d at → at + 26 ≤ length z → out ≡ patched d at lever → (n : ℕ) → n ≡ at + 26
    → Written z 0 (head ++ rooms rs (i + 1)) out n
room_more {z} {d} {out} {lever} {at} head rs i r is h w room put n k =
    let e = told_entry (get_or rs i r) in
    let size = length_lever e in
    let long = written_length w in
    let one : Written d at (lever_bytes e) out (at + 26) = record { room = omega arith; ends = omega arith; is = rw (← is) put } in
    rw (rooms-next rs i r h, ← append_assoc, k) (written_then w one)

-- ALL ROOMS fill the array
pub rooms_filled : {z out : List ℕ} {n : ℕ} (head : List ℕ) (rs : List Requirement) (i : ℕ) → Written z 0 (head ++ rooms rs i) out n → i ≡ length rs → n ≡ length z
    → out ≡ head ++ rooms_bytes (map told_entry rs)
unfolding filled
rooms_filled {z} {out} head rs i w e k =
    let all = head ++ rooms_bytes (map told_entry rs) in
    let v = rw (e, k, take-length) at w in
    written_filled v ∙ rw (drop_of_length-le z {i = length all} (omega (arith, v.ends)), append-nil)
