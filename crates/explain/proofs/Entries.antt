-- The entries of an explanation, one after the other: how many bytes they have, and one more written after those that stand. Assumes nothing.
use Rattle.rules.proofs.Kit.{ℕ, ◌+◌, ◌*◌, ◌/◌, ◌<◌, ◌≤◌, ◌≡◌, refl, sym, ap, ◌∙◌, true, false, List, [], ◌∷◌, ◌++◌, append-nil, append_assoc, map}
use Rattle.rules.proofs.Kit.{map-append, arith, length, ltb, take, get_or, length-append, length-map, take_all}
use Rattle.rules.specs.{Bytes.filled, Records.Listed, Records.listed, Records.listed_of, Records.model_at, Numbers.Verdict, Verdict.Judged}
use Rattle.rules.specs.{Explain.explanation_record, Explain.explained, declared.records.KernelModel.KernelModel, declared.records.KernelInput.KernelInput}
use Rattle.endian_writing.specs.Put.{patched}
use Rattle.packing.proofs.Layouts.{length-packed}
use Rattle.pricing.specs.declared.Pricing.{Pricing}
use Rattle.kernel_verdict.specs.Verdict.{verdict_in}
use Rattle.bank.proofs.Listing.{length-listed, listed_at, nowhere}
use Rattle.splice.proofs.Pieces.{Written, written_none, written_one, written_then, written_as, written_length, written_filled}
use Rattle.live_slots.specs.Among.{among_of, Among}
use Rattle.live_slots.proofs.Among.{read-many}
use Rattle.explain_entries.specs.{Scanned.scanned, Entry.judged_entry}
use Rattle.explain_entries.proofs.Verdicts.{tell_in}
use Rattle.explain.specs.Entries.{is_skipped}
use Rattle.explain.proofs.Read.{read_of, among_read, read_none, read_first, more-skipped, more-kept}

-- AN ENTRY HAS 72 BYTES, and so many entries 72 times as many
pub length-entry : (j : Judged) → length (explanation_record j) ≡ 72
unfolding explanation_record
length-entry j = length-packed _

pub length-explained : (js : List Judged) → length (explained js) ≡ 72 * length js
unfolding explained
length-explained [] = refl
length-explained (j ∷ js) = length-append (explanation_record j) (explained js) ∙ omega (arith, length-entry j, length-explained js)

-- ONE ENTRY MORE STANDS AFTER THE OTHERS
explained_snoc : (js : List Judged) (j : Judged) → explained (js ++ j ∷ []) ≡ explained js ++ explanation_record j
unfolding explained
explained_snoc [] j = append-nil (explanation_record j)
explained_snoc (x ∷ js) j = rw (explained_snoc js j) (sym (append_assoc (explanation_record x) (explained js) (explanation_record j)))

module _ (pr : Pricing) (q : KernelInput) (many : ℕ) (bank start : List ℕ) where
  -- those that are read among the first records
  abbrev firsts : ℕ → List Listed
  firsts i = read_of (ltb many (length bank / 47)) (take i (listed_of bank))

  -- their entries, so many, stand at the start of a list
  abbrev pub Told : ℕ → List ℕ → ℕ → Type 0
  Told i list entries = Written start 0 (explained (map (tell_in pr q) (firsts i))) list (72 * entries)

  pub told_none : Told 0 start 0
  unfolding explained
  told_none = rw (read_none (ltb many (length bank / 47))) (written_none start 0 (omega arith))

  -- AS MANY ENTRIES AS RECORDS
  told-many : {list : List ℕ} (i entries : ℕ) → Told i list entries → entries ≡ length (firsts i)
  told-many i entries w = omega (arith, w.ends, length-explained (map (tell_in pr q) (firsts i)), length-map (firsts i) (tell_in pr q))

  module _ (i : ℕ) (h : i < length bank / 47) where
    its : get_or (listed_of bank) i nowhere ≡ listed i (model_at bank i)
    its = listed_at bank i nowhere h

    within : i < length (listed_of bank)
    within = omega (arith, length-listed bank)

    -- A SLOT THAT IS SKIPPED changes nothing
    pub told-skipped : {list : List ℕ} (entries : ℕ) (m : KernelModel) → m ≡ model_at bank i → is_skipped many (length bank / 47) m.model_id ≡ true
        → Told i list entries → Told (i + 1) list entries
    unfolding is_skipped
    told-skipped entries m em e w =
        let f = more-skipped (ltb many (length bank / 47)) (listed_of bank) i within (rw (its, ← em) e) in
        written_as w (ap (λ (ls : List Listed). explained (map (tell_in pr q) ls)) (sym f))

    module _ (m : KernelModel) (em : m ≡ model_at bank i) (kept : is_skipped many (length bank / 47) m.model_id ≡ false) where
      one_more_lem : firsts (i + 1) ≡ firsts i ++ listed i (model_at bank i) ∷ []
      unfolding is_skipped
      one_more_lem =
          more-kept (ltb many (length bank / 47)) (listed_of bank) i within (rw (its, ← em) kept)
          ∙ ap (λ (l : Listed). firsts i ++ l ∷ []) its

      -- THE ROOM SUFFICES FOR ONE MORE
      pub told-room : Among many bank → {list : List ℕ} (entries : ℕ) → Told i list entries → entries < many
      told-room seen entries w =
          let all = ap length (sym (among_read many bank)) ∙ read-many many bank seen in
          omega (
            arith,
            told-many i entries w,
            ap length one_more_lem,
            length-append (firsts i) (listed i (model_at bank i) ∷ []),
            all,
            read_first (ltb many (length bank / 47)) (i + 1) (listed_of bank),
          )

      -- its bytes
      bytes-more : explained (map (tell_in pr q) (firsts (i + 1))) ≡ explained (map (tell_in pr q) (firsts i))
          ++ explanation_record (tell_in pr q (listed i (model_at bank i)))
      bytes-more =
          ap (λ (ls : List Listed). explained (map (tell_in pr q) ls)) one_more_lem
          ∙ rw (map-append (tell_in pr q) (firsts i) (listed i (model_at bank i) ∷ [])) (explained_snoc _ _)

      -- ONE MORE, WRITTEN WHERE THE OTHERS END
      pub told_more : {list next bytes : List ℕ} (entries : ℕ) (v : Verdict) → entries < many → 72 * many ≤ length start → Told i list entries
          → v ≡ scanned q m (verdict_in pr q m) → bytes ≡ explanation_record (judged_entry i m v) → next ≡ patched list (72 * entries) bytes
          → Told (i + 1) next (entries + 1)
      told_more {list} {next} {bytes} entries v few room w ev eb p =
          let long : length bytes ≡ 72 = ap length eb ∙ length-entry (judged_entry i m v) in
          let one = written_one (72 * entries) bytes (omega (arith, written_length w)) p in
          let same : bytes ≡ explanation_record (tell_in pr q (listed i (model_at bank i))) = rw (eb, ev, em) in
          let ends : 72 * entries + length bytes ≡ 72 * (entries + 1) = omega arith in
          let all = ap (λ (b : List ℕ). explained (map (tell_in pr q) (firsts i)) ++ b) same ∙ sym bytes-more in
          rw ends at (written_as (written_then w one) all)

  -- ALL OF THEM FILL THE START OF THE LIST
  pub told-all : {list : List ℕ} (i entries : ℕ) → i ≡ length bank / 47 → Told i list entries
      → list ≡ filled (explained (map (tell_in pr q) (among_of many bank))) start
  told-all {list} i entries e w =
      let k : length (listed_of bank) ≤ i = omega (arith, length-listed bank) in
      let all : firsts i ≡ among_of many bank = rw (take_all i (listed_of bank) k) (sym (among_read many bank)) in
      written_filled w ∙ ap (λ (ls : List Listed). filled (explained (map (tell_in pr q) ls)) start) all
