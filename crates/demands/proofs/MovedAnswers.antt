-- What the calls answer beside a decision follows any renaming of places, and another catalogue epoch: the model that is found, verdicts, counts,
-- utilities, and explanations, which say the place. Assumes nothing.
use Rattle.rules.proofs.Kit.{ℕ, ◌≡◌, refl, ap, ◌∙◌, Bool, true, false, cond, List, [], ◌∷◌, ◌++◌, map, Option, none, some, eqb, take, drop, length, ltb}
use Rattle.rules.specs.{Choice.equal, Bytes.bytes_of, Bytes.packed, Records.Listed, Records.listed, Price.cost_under, Verdict.Judged, Verdict.judged}
use Rattle.rules.specs.{Decide.counts_in, Decide.if_listed, Decide.utility_in, Explain.explanation_record, Explain.explained, Explain.explanation_of, Choice.below}
use Rattle.rules.specs.{Decide.stopped_by, Listing.first_listed, Listing.place_of, Levers.varied, declared.records.KernelModel.KernelModel}
use Rattle.rules.specs.{declared.records.KernelInput.KernelInput, declared.records.PolicySnapshot.PolicySnapshot}
use Rattle.demands.specs.Renamed.{renamed, renamed_judged, policy_at}
use Rattle.demands.proofs.Renaming.{judged-renamed, counts-renamed, same-stopped, same-verdict, same-judged}

-- ---- a model by its id

module _ (f : ℕ → ℕ) (id : ℕ) where
  -- R1. THE FIRST LISTED RECORD with an id is the same one, at its new place
  pub first-renamed : (ls : List Listed) → first_listed id (map (renamed f) ls) ≡ mathlib.Core.Option.map (renamed f) (first_listed id ls)
  unfolding first_listed equal
  first-renamed [] = refl
  first-renamed (l ∷ ls) = rw (first-renamed ls) (go (eqb l.model.model_id id))
    where
      go : (t : Bool) → cond t (some (renamed f l)) (mathlib.Core.Option.map (renamed f) (first_listed id ls)) ≡ mathlib.Core.Option.map (renamed f) (cond t (some l) (first_listed id ls))
      go true = refl
      go false = refl

  pub place-renamed : (ls : List Listed) → place_of (first_listed id (map (renamed f) ls)) ≡ mathlib.Core.Option.map f (place_of (first_listed id ls))
  place-renamed ls = ap place_of (first-renamed ls) ∙ go (first_listed id ls)
    where
      go : (o : Option Listed) → place_of (mathlib.Core.Option.map (renamed f) o) ≡ mathlib.Core.Option.map f (place_of o)
      go none = refl
      go (some l) = refl

  -- R1. A stand-in for it stands where it stood
  pub varied-renamed : (m : KernelModel) (ls : List Listed) → varied id m (map (renamed f) ls) ≡ map (renamed f) (varied id m ls)
  unfolding varied equal
  varied-renamed m [] = refl
  varied-renamed m (l ∷ ls) = rw (varied-renamed m ls) (go (eqb l.model.model_id id))
    where
      go : (t : Bool) → cond t (listed (f l.place) m ∷ map (renamed f) ls) (renamed f l ∷ map (renamed f) (varied id m ls))
          ≡ map (renamed f) (cond t (listed l.place m ∷ ls) (l ∷ varied id m ls))
      go true = refl
      go false = refl

-- ---- counts, utilities, explanations: these see no order

module _ (f : ℕ → ℕ) (epoch : ℕ) (p : PolicySnapshot) (q : KernelInput) (ls : List Listed) where
  -- D3, D14, D19. THE VERDICTS ARE THE SAME, record by record
  pub verdicts-moved : judged (policy_at epoch p) q (map (renamed f) ls) ≡ map (renamed_judged f) (judged p q ls)
  verdicts-moved = same-judged epoch p q (cost_under p) (map (renamed f) ls) ∙ judged-renamed f (cost_under p) p q ls

  -- D23. THE COUNTS ARE THE SAME
  pub counts_moved : counts_in (policy_at epoch p) q (map (renamed f) ls) ≡ counts_in p q ls
  unfolding counts_in
  counts_moved = rw (same-stopped epoch p q, verdicts-moved, counts-renamed f (judged p q ls))

  -- N7. THE UTILITY OF A MODEL IS THE SAME, and so is its refusal
  pub utility-moved : (id : ℕ) → utility_in (policy_at epoch p) q id (map (renamed f) ls) ≡ utility_in p q id ls
  unfolding utility_in
  utility-moved id = rw (same-stopped epoch p q, first-renamed f id ls, go (first_listed id ls))
    where
      go : (o : Option Listed) → if_listed (policy_at epoch p) q (mathlib.Core.Option.map (renamed f) o) ≡ if_listed p q o
      go none = refl
      go (some l) = rw (same-verdict epoch p q l.model (cost_under p l.model q))

-- B6. AN EXPLANATION RECORD AT ANOTHER PLACE is the same but for bytes 4 and 5, which say the place
pub explained_at : (f : ℕ → ℕ) (j : Judged)
    → explanation_record (renamed_judged f j) ≡ take 4 (explanation_record j) ++ bytes_of 2 (f j.listed.place) ++ drop 6 (explanation_record j)
unfolding explanation_record packed bytes_of
explained_at f j = refl

explained-length : (f : ℕ → ℕ) (js : List Judged) → length (explained (map (renamed_judged f) js)) ≡ length (explained js)
unfolding explained explanation_record packed bytes_of
explained-length f [] = refl
explained-length f (j ∷ js) = rw (explained-length f js)

-- N4. SO AN EXPLANATION asks for as much room as before
pub room_moved : (f : ℕ → ℕ) (epoch : ℕ) (p : PolicySnapshot) (q : KernelInput) (ls : List Listed)
    → length (explanation_of (policy_at epoch p) q (map (renamed f) ls)) ≡ length (explanation_of p q ls)
unfolding explanation_of below
room_moved f epoch p q ls = rw (same-stopped epoch p q, verdicts-moved f epoch p q ls) (go (ltb 0 (stopped_by p q)))
  where
    go : (t : Bool) → length (cond t [] (explained (map (renamed_judged f) (judged p q ls)))) ≡ length (cond t [] (explained (judged p q ls)))
    go true = refl
    go false = explained-length f (judged p q ls)
