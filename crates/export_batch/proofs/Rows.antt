-- A row of requests in bytes, one more at its end, and the decisions written for it. Assumes nothing.
use Rattle.rules.proofs.Kit.{ℕ, zero, suc, ◌+◌, ◌*◌, ◌≤◌, ◌≡◌, refl, sym, ap, ◌∙◌, List, [], ◌∷◌, ◌++◌, append-nil, append_assoc, map-append, arith}
use Rattle.rules.proofs.Kit.{zero-add, add-zero, add-one, length}
use Rattle.rules.specs.{Bytes.filled, Records.Listed, Numbers.Decision, Decide.decision_of, Batch.decisions_of}
use Rattle.rules.specs.{declared.records.KernelInput.KernelInput, declared.records.PolicySnapshot.PolicySnapshot}
use Rattle.endian_writing.specs.Put.{patched}
use Rattle.packing.proofs.Layouts.{length-packed}
use Rattle.splice.proofs.Pieces.{Written, written_none, written_one, written_then, written_as, written_length, written_filled}
use Rattle.export_decision_bytes.specs.Layout.{uncounted_bytes}
use Rattle.export_batch.specs.Batches.{request_at, requests_from, row_bytes}

-- AS MANY REQUESTS AS ARE COUNTED
pub length_requests : (rs : List ℕ) (place n : ℕ) → length (requests_from rs place n) ≡ n
unfolding requests_from
length_requests rs place zero = refl
length_requests rs place (suc n) = ap suc (length_requests rs (suc place) n)

-- ONE MORE STANDS AFTER THE OTHERS
requests_from_lem : (rs : List ℕ) (place n : ℕ) → requests_from rs place (suc n) ≡ requests_from rs place n ++ request_at rs (place + n) ∷ []
unfolding requests_from
requests_from_lem rs place zero = rw add-zero
requests_from_lem rs place (suc n) =
    let next : suc place + n ≡ place + suc n = omega arith in
    ap (λ (qs : List KernelInput). request_at rs place ∷ qs) (requests_from_lem rs (suc place) n)
    ∙ ap (λ (k : ℕ). request_at rs place ∷ (requests_from rs (suc place) n ++ request_at rs k ∷ [])) next

pub requests_more : (rs : List ℕ) (i : ℕ) → requests_from rs 0 (i + 1) ≡ requests_from rs 0 i ++ request_at rs i ∷ []
requests_more rs i =
    rw (add-one i) (requests_from_lem rs 0 i ∙ ap (λ (k : ℕ). requests_from rs 0 i ++ request_at rs k ∷ []) (zero-add i))

-- A DECISION HAS 65 BYTES
pub length_decision : (d : Decision) → length (uncounted_bytes d) ≡ 65
unfolding uncounted_bytes
length_decision d = length-packed _

-- one more stands after the others
row_snoc : (ds : List Decision) (d : Decision) → row_bytes (ds ++ d ∷ []) ≡ row_bytes ds ++ uncounted_bytes d
unfolding row_bytes
row_snoc [] d = append-nil (uncounted_bytes d)
row_snoc (x ∷ ds) d = rw (row_snoc ds d) (sym (append_assoc (uncounted_bytes x) (row_bytes ds) (uncounted_bytes d)))

module _ (p : PolicySnapshot) (ls : List Listed) (rs start : List ℕ) where
  -- the bytes of the decisions on the first requests
  abbrev firsts : ℕ → List ℕ
  firsts i = row_bytes (decisions_of p ls (requests_from rs 0 i))

  -- they stand at the start of a buffer
  abbrev pub Told : ℕ → List ℕ → Type 0
  Told i out = Written start 0 (firsts i) out (65 * i)

  pub told_none : Told 0 start
  unfolding row_bytes decisions_of requests_from
  told_none = written_none start 0 (omega arith)

  firsts_more : (i : ℕ) → firsts (i + 1) ≡ firsts i ++ uncounted_bytes (decision_of p (request_at rs i) ls)
  unfolding decisions_of
  firsts_more i =
      ap (λ (qs : List KernelInput). row_bytes (decisions_of p ls qs)) (requests_more rs i)
      ∙ rw (map-append (λ (q : KernelInput). decision_of p q ls) (requests_from rs 0 i) (request_at rs i ∷ [])) (row_snoc _ _)

  -- ONE MORE, WRITTEN WHERE THE OTHERS END
  pub told_more : {out next bytes : List ℕ} (i : ℕ) (q : KernelInput) (d : Decision) → 65 * (i + 1) ≤ length start → Told i out → q ≡ request_at rs i
      → d ≡ decision_of p q ls → bytes ≡ uncounted_bytes d → next ≡ patched out (65 * i) bytes → Told (i + 1) next
  told_more {out} {next} {bytes} i q d room w eq ed eb put =
      let long : length bytes ≡ 65 = ap length eb ∙ length_decision d in
      let one = written_one (65 * i) bytes (omega (arith, written_length w)) put in
      let same : bytes ≡ uncounted_bytes (decision_of p (request_at rs i) ls) = rw (eb, ed, eq) in
      let ends : 65 * i + length bytes ≡ 65 * (i + 1) = omega arith in
      let all = ap (λ (b : List ℕ). firsts i ++ b) same ∙ sym (firsts_more i) in
      rw ends at (written_as (written_then w one) all)

  -- ALL OF THEM FILL THE START OF THE BUFFER
  pub told-all : {out : List ℕ} (i count : ℕ) → i ≡ count → Told i out → out ≡ filled (firsts count) start
  told-all i count e w = rw e at (written_filled w)
