-- An answer's entries, lever by lever: what a lever's search found is what its entries say. Assumes nothing.
use Rattle.rules.proofs.Kit.{ℕ, ◌-◌, ◌≤◌, ◌<◌, ◌≡◌, refl, sym, ap, subst, ◌∙◌, Bool, true, false, cond, false≢true, List, [], ◌∷◌, ◌++◌, append-nil}
use Rattle.rules.proofs.Kit.{le_refl, arith, length, replicate, take-append_seam, eqb}
use Rattle.std.specs.Prelude.{Some, None}
use Rattle.std.specs.Prelude as declared
use Rattle.rules.specs.{Choice.equal, Refused.no_fault, Numbers.Entry, Numbers.Decision, Numbers.Boundary, Halving.Side, Halving.Lowest, Halving.first_tried}
use Rattle.rules.specs.{Halving.search_of, Halving.far_end, Halving.search_after_far_end, Levers.Question, Levers.Sought, Levers.plain, Levers.priced}
use Rattle.rules.specs.{Levers.and_then, Levers.boundary_of, Levers.no_entry, Levers.at_boundary, declared.boundary.Bound.Bound, Printed.entries_of}
use Rattle.demands.specs.{Exact.Range, Exact.TurnsOnce, Exact.BoundaryAt, Exact.FoundExact, Exact.FoundAfterFarEnd, Demand3.quality_entry}
use Rattle.demands.specs.{Demand3.latency_entry, Demand3.price_entry, Demand3.ceiling_entry, Demand3.of_lever, Demand3.entries_for, Demand3.WinLever}
use Rattle.demands.specs.{Demand3.MarginQuality, Demand3.MarginLever}
use Rattle.demands.proofs.Exact.{at_itself, search-exact, margin-exact}

-- ---- the rooms in use are what was sought

pub used_sought : (id : ℕ) (d : Decision) (blocked : Bool) (s : Sought) → entries_of (boundary_of id d blocked s) ≡ s.entries
unfolding boundary_of
used_sought id d blocked s = take-append_seam s.entries (replicate (4 - length s.entries) no_entry)

pub not_refused : (id : ℕ) (d : Decision) (blocked : Bool) (s : Sought) → (boundary_of id d blocked s).refusal ≡ no_fault
unfolding boundary_of
not_refused id d blocked s = refl

-- ---- the entries that a search gives

-- what was found, as entries
abbrev pub found : (ℕ → Entry) → Bound → List Entry
found entry_at r = at_boundary entry_at r

-- what was found for one lever is among a lever's entries where it is that lever
of_found : (k lever : ℕ) (entry_at : ℕ → Entry) → ((b : ℕ) → (entry_at b).lever ≡ lever) → (r : Bound) (rest : List Entry)
    → of_lever k (found entry_at r ++ rest) ≡ equal lever k (found entry_at r) [] ++ of_lever k rest
unfolding of_lever equal
of_found k lever entry_at h r rest = go (eqb lever k) refl r.boundary
  where
    es : declared.Option ℕ → List Entry
    es o = found entry_at (record { boundary = o; passes = r.passes })

    go : (t : Bool) → eqb lever k ≡ t → (o : declared.Option ℕ) → of_lever k (es o ++ rest) ≡ cond t (es o) [] ++ of_lever k rest
    go true e (Some b) = rw (h b, e)
    go false e (Some b) = rw (h b, e)
    go true e None = refl
    go false e None = refl

-- an answer's entries are, lever by lever, what its four searches found
pub record Answers (answer : Boundary) (a : Question) (one two three four : Bound) : Type 0 where
  pub quality : entries_for 1 answer ≡ found (quality_entry a) one
  pub latency : entries_for 2 answer ≡ found (latency_entry a) two
  pub price : entries_for 3 answer ≡ found (price_entry a) three
  pub ceiling : entries_for 4 answer ≡ found (ceiling_entry a) four
  pub whole : entries_of answer ≡ entries_for 1 answer ++ (entries_for 2 answer ++ (entries_for 3 answer ++ entries_for 4 answer))

module _ (answer : Boundary) (a : Question) (one two three four : Bound) where
  -- four searches, one after the other
  abbrev sought : Sought
  sought =
      and_then (plain 1 a.model.quality_bps one)
      (and_then (plain 2 a.model.p95_latency_ms two) (and_then (priced a three) (plain 4 a.model.risk_ceiling_bps four)))

  abbrev all : List Entry
  all = found (quality_entry a) one ++ (found (latency_entry a) two ++ (found (price_entry a) three ++ (found (ceiling_entry a) four ++ [])))

  part : (k : ℕ) → of_lever k all ≡ equal 1 k (found (quality_entry a) one) []
      ++ (equal 2 k (found (latency_entry a) two) [] ++ (equal 3 k (found (price_entry a) three) [] ++ (equal 4 k (found (ceiling_entry a) four) [] ++ [])))
  unfolding of_lever
  part k =
      rw (of_found k 1 (quality_entry a) (λ b. refl) one, of_found k 2 (latency_entry a) (λ b. refl) two)
      (rw (of_found k 3 (price_entry a) (λ b. refl) three, of_found k 4 (ceiling_entry a) (λ b. refl) four))

  pub answers : entries_of answer ≡ sought.entries → Answers answer a one two three four
  unfolding equal
  answers e =
      let s : entries_of answer ≡ all = e ∙ rw append-nil in
      let quality = ap (of_lever 1) s ∙ part 1 ∙ append-nil _ in
      let latency = ap (of_lever 2) s ∙ part 2 ∙ append-nil _ in
      let price = ap (of_lever 3) s ∙ part 3 ∙ append-nil _ in
      let ceiling = ap (of_lever 4) s ∙ part 4 ∙ append-nil _ in
      record {
        quality = quality;
        latency = latency;
        price = price;
        ceiling = ceiling;
        whole = rw (quality, latency, price, ceiling) (s ∙ rw append-nil);
      }

-- ---- exact searches give exact levers

nothing_there : {e : Entry} → ◌≡◌ {A = List Entry} [] (e ∷ []) → ⊥
nothing_there h = omega (arith, ap length h)

boundary_of_lem : List Entry → ℕ
boundary_of_lem [] = 0
boundary_of_lem (e ∷ es) = e.boundary

module _ (entry_at : ℕ → Entry) (says : (b : ℕ) → (entry_at b).boundary ≡ b) (side : Side) (t : ℕ → Bool) (r : Range) where
  one-boundary : (b c : ℕ) → entry_at b ∷ [] ≡ entry_at c ∷ [] → b ≡ c
  unfolding boundary_of_lem
  one-boundary b c e = sym (says b) ∙ ap boundary_of_lem e ∙ says c

  holds : (b : ℕ) → BoundaryAt side t r b → t b ≡ true
  holds b h = (h.exactly b h.in_range).1 (at_itself side b)

  abbrev entries_at : declared.Option ℕ → List Entry
  entries_at o = found entry_at (record { boundary = o; passes = 0 })

  win-lever : (o : declared.Option ℕ) → FoundExact side t r o → WinLever (entries_at o) entry_at side t r
  win-lever (Some b) h =
      record {
        given = (λ e. (b, h.in_range, holds b h), λ s. (b, refl));
        missing = (λ e. absurd (nothing_there (sym e)), λ f. absurd (false≢true (sym (f b h.in_range) ∙ holds b h)));
        exact = λ c e. subst (BoundaryAt side t r) (one-boundary b c e) h;
      }
  win-lever None h =
      record {
        given = (λ e. absurd (nothing_there e.1), λ s. absurd (false≢true (sym (h s.0 s.1) ∙ s.2)));
        missing = (λ e. h, λ f. refl);
        exact = λ c e. absurd (nothing_there e);
      }

  margin-lever : (o : declared.Option ℕ) → FoundAfterFarEnd side t r o → MarginLever (entries_at o) entry_at side t r
  margin-lever (Some b) (h, (v, i, f)) =
      record {
        missing = (λ e. absurd (nothing_there (sym e)), λ g. absurd (false≢true (sym f ∙ g v i)));
        given = (λ e. (v, i, f), λ s. (b, refl));
        exact = λ c e. subst (BoundaryAt side t r) (one-boundary b c e) h;
      }
  margin-lever None h =
      record {
        missing = (λ e. h, λ f. refl);
        given = (λ e. absurd (nothing_there e.1), λ s. absurd (false≢true (sym s.2 ∙ h s.0 s.1)));
        exact = λ c e. absurd (nothing_there e);
      }

module _ {es : List Entry} {entry_at : ℕ → Entry} {side : Side} {t : ℕ → Bool} {r : Range} (says : (b : ℕ) → (entry_at b).boundary ≡ b)
    (turns : TurnsOnce side t r) where
  -- a lever of what would win
  pub won : es ≡ found entry_at (search_of side t r.low r.high) → WinLever es entry_at side t r
  won e = rw e (win-lever entry_at says side t r (search_of side t r.low r.high).boundary (search-exact side t r.low r.high turns))

  -- a lever of a margin that is searched after its far end
  pub kept : es ≡ found entry_at (search_after_far_end side t r.low r.high) → t (first_tried side r.low r.high) ≡ true
      → (r.high < r.low → t (far_end side r.low r.high) ≡ true) → MarginLever es entry_at side t r
  kept e f n = rw e (margin-lever entry_at says side t r (search_after_far_end side t r.low r.high).boundary (margin-exact side t r.low r.high turns f n))

-- the margin's quality, which is searched at once: the test holds at its near end, so a boundary is found
pub kept_quality : {es : List Entry} {entry_at : ℕ → Entry} {t : ℕ → Bool} {r : Range} → ((b : ℕ) → (entry_at b).boundary ≡ b) → TurnsOnce Lowest t r
    → es ≡ found entry_at (search_of Lowest t r.low r.high) → r.low ≤ r.high → t r.high ≡ true → MarginQuality es entry_at t r
kept_quality {es} {entry_at} {t} {r} says turns e h f =
    let w = won says turns e in
    record { given = w.given.1 (r.high, (h, le_refl r.high), f); exact = w.exact }
