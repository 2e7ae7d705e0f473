-- The bank while its gaps are being closed: the live ones of its first slots at the front, all behind them as it was. Assumes nothing.
use Rattle.rules.proofs.Kit.{ℕ, refl, ◌+◌, ◌-◌, ◌*◌, ◌/◌, ◌%◌, ◌≤◌, ◌≡◌, sym, ap, ◌∙◌, List, [], ◌∷◌, ◌++◌, append_assoc, append-nil, arith}
use Rattle.rules.proofs.Kit.{add-one, length, take, drop, replicate, length-append, length-drop, length-take-le, take-append-drop, drop_of_length-le}
use Rattle.rules.proofs.Kit.{take_at, drop-drop, drop-append-add}
use Rattle.rules.specs.{Bytes.filled, Records.record_part, Trust.id_of, Trust.records_from, Trust.records_of, Trust.joined, Slots.live_slots}
use Rattle.rules.specs.{Slots.live_faults, Slots.live_in, Edits.spent_faults, Edits.closed_up, Edits.compacted, Edits.raised_of, Edits.compact_faults}
use Rattle.rules.specs.{Edits.compact_of, Edits.compact_bank, Refused.refused, Refused.answered, Refused.unless, Refused.first_fault, Refused.told_outcome}
use Rattle.rules.specs.{Numbers.told_edited, Numbers.told_number, declared.records.PolicySnapshot.PolicySnapshot, declared.refusal.Refusal.Refusal}
use Rattle.rules.proofs.{Chunks.records_length, Chunks.records_snoc, Chunks.whole_records, Chunks.joined-append, Chunks.joined_length}
use Rattle.rules.proofs.{Faults.unless_refused, Faults.exit_answer, Faults.passed}
use Rattle.rules.proofs.Slots.{live_many, live-left, live-kept, live-none, live-append, live-fewer, live-each, slots_length, free_joined}
use Rattle.endian_writing.specs.Put.{patched}
use Rattle.live_slots.proofs.Told.{number_passed}
use Rattle.std.specs.Prelude.{Result, Ok, Err, IsErrAnd, ⊤}

-- ---- free bytes

abbrev pub zeros : ℕ → List ℕ
zeros n = replicate n 0

-- ---- the state of the loop

unfoldable pub partly : List ℕ → ℕ → List ℕ
partly s i = filled (joined (live_slots (records_from i s))) s

abbrev pub count : List ℕ → ℕ → ℕ
count s i = length (live_slots (records_from i s))

pub partly_first : (s : List ℕ) → s ≡ partly s 0
unfolding partly records_from joined filled
partly_first s = rw (live-none id_of)

pub count_first : (s : List ℕ) → 0 ≡ count s 0
unfolding records_from
count_first s = rw (live-none id_of)

pub count_most : (s : List ℕ) (i : ℕ) → count s i ≤ i
count_most s i = omega (arith, live-fewer id_of (records_from i s), records_length i s)

module _ (s : List ℕ) (i : ℕ) (fits : 47 * i ≤ length s) where
  front_length : length (joined (live_slots (records_from i s))) ≡ 47 * count s i
  front_length = joined_length (live_slots (records_from i s)) (live-each id_of (λ r. length r ≡ 47) (records_from i s) (whole_records i s fits))

  partly-is : partly s i ≡ joined (live_slots (records_from i s)) ++ drop (47 * count s i) s
  unfolding partly filled
  partly-is = rw front_length

  pub partly-length : length (partly s i) ≡ length s
  partly-length = rw partly-is (simp (length-append, length-drop) (omega (arith, front_length, count_most s i)))

  partly-from : drop (47 * i) (partly s i) ≡ drop (47 * i) s
  partly-from =
      let f = joined (live_slots (records_from i s)) in
      let more : 47 * i ≡ length f + (47 * i - length f) = omega (arith, front_length, count_most s i) in
      let again : 47 * count s i + (47 * i - length f) ≡ 47 * i = omega (arith, front_length, count_most s i) in
      ap (drop (47 * i)) partly-is
      ∙ ap (λ n. drop n (f ++ drop (47 * count s i) s)) more
      ∙ drop-append-add f (drop (47 * count s i) s) (47 * i - length f)
      ∙ drop-drop (47 * i - length f) (47 * count s i) s
      ∙ ap (λ n. drop n s) again

  -- the next slot is as it was
  next-part : (b : List ℕ) → b ≡ partly s i → record_part b i ≡ record_part s i
  next-part b was = rw was (ap (take 47) partly-from)

  -- A FREE SLOT IS LEFT OUT
  pub free-next : (b : List ℕ) → b ≡ partly s i → id_of (record_part b i) ≡ 0 → (b ≡ partly s (i + 1)) × (count s i ≡ count s (i + 1))
  unfolding partly
  free-next b was e =
      let free : id_of (record_part s i) ≡ 0 = rw (next-part b was) at e in
      let same : live_slots (records_from (i + 1) s) ≡ live_slots (records_from i s) =
      rw (add-one, records_snoc, live-append id_of, live-left id_of (record_part s i) [] free, live-none id_of, append-nil) in
      (was ∙ ap (λ l. filled (joined l) s) (sym same), ap length (sym same))

  -- A LIVE ONE MOVES DOWN
  module _ (long : 47 * i + 47 ≤ length s) (b : List ℕ) (was : b ≡ partly s i) (live : id_of (record_part b i) ≡ 0 → ⊥) where
    one_more_lem : live_slots (records_from (i + 1) s) ≡ live_slots (records_from i s) ++ (record_part s i ∷ [])
    one_more_lem =
        let kept : id_of (record_part s i) ≡ 0 → ⊥ = rw (next-part b was) at live in
        rw (add-one, records_snoc, live-append id_of, live-kept id_of (record_part s i) [] kept, live-none id_of)

    pub live-count : count s i + 1 ≡ count s (i + 1)
    live-count = rw (one_more_lem, length-append)

    pub live-next : (k : ℕ) (e : List ℕ) → k ≡ count s i → e ≡ patched b (47 * k) (record_part b i) → e ≡ partly s (i + 1)
    unfolding patched partly filled joined
    live-next k e its now =
        let f = joined (live_slots (records_from i s)) in
        let r = record_part s i in
        let one : length r ≡ 47 = length-take-le 47 (drop (47 * i) s) (simp length-drop (omega arith)) in
        let there : length f ≡ 47 * k = rw its front_length in
        let b-is : b ≡ f ++ drop (47 * k) s = was ∙ partly-is ∙ rw its in
        let front : take (47 * k) b ≡ f = rw b-is (take_at f (drop (47 * k) s) (47 * k) there) in
        let end : drop (47 * k + 47) b ≡ drop (47 * k + 47) s = rw b-is (rw (← there) (drop-append-add f (drop (length f) s) 47 ∙ drop-drop 47 (length f) s)) in
        let grown : joined (live_slots (records_from (i + 1) s)) ≡ f ++ r = rw (one_more_lem, joined-append, append-nil) in
        let size : length (f ++ r) ≡ 47 * k + 47 = rw length-append (omega arith) in
        now ∙ rw (next-part b was, one, front, end, grown, size, append_assoc)

-- THE LAST SLOT PASSED, all live ones are at the front
pub closed_last : (s : List ℕ) (i : ℕ) → i ≡ length s / 47
    → (count s i ≡ length (live_slots (records_of s))) × (partly s i ≡ filled (joined (live_slots (records_of s))) s)
unfolding partly
closed_last s i e = (rw e, rw e)

-- A RECORD WRITTEN OVER ITSELF changes nothing
pub kept : (s : List ℕ) (at : ℕ) → at + 47 ≤ length s → s ≡ patched s at (take 47 (drop at s))
unfolding patched
kept s at h =
    let one : length (take 47 (drop at s)) ≡ 47 = length-take-le 47 (drop at s) (simp length-drop (omega arith)) in
    sym (rw (one, ← drop-drop 47 at s, take-append-drop 47 (drop at s), take-append-drop))

-- ---- closed, then cleared

pub live_fits : (s : List ℕ) (k : ℕ) → k ≡ length (live_slots (records_of s)) → 47 * k ≤ length s
live_fits s k e = omega (arith, count_most s (length s / 47))

-- THE COMPACTION: what was closed, and zeros from there on
pub cleared : (s b ys : List ℕ) (k : ℕ) → length s % 47 ≡ 0 → k ≡ length (live_slots (records_of s)) → b ≡ filled (joined (live_slots (records_of s))) s
    → ys ≡ zeros (length (take (length b - 47 * k) (drop (47 * k) b)))
    → take (47 * k) b ++ (ys ++ drop (length b - 47 * k) (drop (47 * k) b)) ≡ compacted s
unfolding compacted closed_up partly
cleared s b ys k whole its was back =
    let f = joined (live_slots (records_of s)) in
    let n = length s / 47 in
    let fits : 47 * n ≤ length s = omega arith in
    let there : length f ≡ 47 * k = front_length s n fits ∙ ap (λ (m : ℕ). 47 * m) (sym its) in
    let most : k ≤ n = rw its (count_most s n) in
    let b-is : b ≡ f ++ drop (47 * k) s = was ∙ partly-is s n fits ∙ ap (λ (m : ℕ). f ++ drop (47 * m) s) (sym its) in
    let size : length b ≡ length s = ap length was ∙ partly-length s n fits in
    let front : take (47 * k) b ≡ f = ap (take (47 * k)) b-is ∙ take_at f (drop (47 * k) s) (47 * k) there in
    let left : length (drop (47 * k) b) ≡ length b - 47 * k = length-drop (47 * k) b in
    let end : drop (length b - 47 * k) (drop (47 * k) b) ≡ [] = drop_of_length-le (drop (47 * k) b) {i = length b - 47 * k} (omega arith) in
    let room : length (take (length b - 47 * k) (drop (47 * k) b)) ≡ 47 * (n - k)
    = length-take-le (length b - 47 * k) (drop (47 * k) b) (omega arith) ∙ omega arith in
    rw (back, room, end, front, append-nil, joined-append, slots_length, ← its, free_joined (n - k))

-- ---- the answer

module _ (p : PolicySnapshot) (bank : List ℕ) where
  -- REFUSED, it changes nothing
  pub compact-refused : (r : Result (PolicySnapshot × ℕ) Refusal) (k : Refusal) → IsErrAnd r (λ e. e ≡ k)
      → told_outcome (Err k) ≡ first_fault (live_faults bank ++ spent_faults p) → (told_edited r ≡ compact_of p bank) × (bank ≡ compact_bank p bank)
  unfolding compact_of compact_bank compact_faults
  compact-refused r k handed told = (exit_answer _ r k _ _ handed told, sym (unless_refused _ (λ f. bank) _ refl told))

  -- DONE, it tells how many are live
  pub compact-done : {u : ⊤} {q : PolicySnapshot} {live : ℕ} {exit : List ℕ}
      → told_number (Ok live) ≡ unless (live_faults bank) refused (answered (length (live_in bank))) → told_outcome (Ok u) ≡ first_fault (spent_faults p)
      → q ≡ raised_of p → exit ≡ compacted bank
      → (answered (record { policy = q; number = live }) ≡ compact_of p bank) × (exit ≡ compact_bank p bank)
  unfolding compact_of compact_bank compact_faults
  compact-done {u} {q} {live} read unspent raised closed =
      let slots = number_passed live (live_faults bank) (length (live_in bank)) read in
      let many : live ≡ length (live_slots (records_of bank)) = slots.1 ∙ live_many bank in
      rw (slots.0, passed (spent_faults p) unspent) (rw (raised, many), closed)
