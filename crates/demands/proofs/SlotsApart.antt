-- Slots of which two have the same id only where both are free: so a bank's live records have unique ids, and the other way about. It is seen of all
-- slots at once, so that an edit, which swaps one slot, is seen to keep it. Assumes nothing.
use Rattle.rules.proofs.Kit.{ℕ, suc, ◌≡◌, refl, sym, ap, subst, ◌∙◌, List, [], ◌∷◌, ◌++◌, map, ⊎_elim}
use Rattle.rules.specs.{Order.Each, Order.Pairs, Records.Listed, Records.listed_of, Trust.id_of, Trust.records_of, Slots.free_slot, Slots.live_by, Slots.live_in}
use Rattle.rules.proofs.{Orders.same_or_not, Sorted.each-so, Slots.live-none, Slots.live-left, Slots.live-kept, Slots.live-each, Slots.placed}
use Rattle.rules.proofs.{Slots.listed_slots}
use Rattle.demands.specs.{Lists.Different, Standing.UniqueIds, Renamed.renamed}
use Rattle.demands.proofs.{Lists.each_all, Lists.each-front, Lists.each_back, Lists.pairs-before, Lists.pairs-after, Closing.free_id}

-- Two things with the same id have id 0: of all in a list, this is that the live ones have ids of their own
abbrev pub FreeIfAlike : {A : Type 0} → (A → ℕ) → A → A → Type 0
FreeIfAlike id a b = id a ≡ id b → id a ≡ 0

module _ {A : Type 0} (id : A → ℕ) where
  -- what holds for the live ones, and for any with id 0, holds for all
  live_back : (P : A → Type 0) → ((a : A) → id a ≡ 0 → P a) → (xs : List A) → Each P (live_by id xs) → Each P xs
  live_back P zeros [] h = tt
  live_back P zeros (x ∷ xs) h =
      ⊎_elim
      (λ e. (zeros x e, live_back P zeros xs (rw (live-left id x xs e) at h)))
      (λ n. let k = rw (live-kept id x xs n) at h in (k.0, live_back P zeros xs k.1))
      (same_or_not (id x) 0)

  apart-different : (xs : List A) → Pairs (FreeIfAlike id) xs → Different id (live_by id xs)
  apart-different [] h = rw (live-none id) tt
  apart-different (x ∷ xs) h =
      ⊎_elim
      (λ e. rw (live-left id x xs e) (apart-different xs h.1))
      (λ n. rw (live-kept id x xs n) (each-so _ _ (λ y k e. n (k e)) (live_by id xs) (live-each id _ xs h.0), apart-different xs h.1))
      (same_or_not (id x) 0)

  different-apart : (xs : List A) → Different id (live_by id xs) → Pairs (FreeIfAlike id) xs
  different-apart [] h = tt
  different-apart (x ∷ xs) h =
      ⊎_elim
      (λ e. (each_all _ (λ y k. e) xs, different-apart xs (rw (live-left id x xs e) at h)))
      (λ n. let k = rw (live-kept id x xs n) at h in
      (live_back (FreeIfAlike id x) (λ y z e. e ∙ z) xs (each-so _ _ (λ y d e. absurd (d e)) (live_by id xs) k.0), different-apart xs k.1))
      (same_or_not (id x) 0)

-- of a bank: by its slots
pub each_placed : (P : ℕ → Type 0) (k : ℕ) (rs : List (List ℕ)) → Each (λ l. P l.model.model_id) (placed k rs) ≡ Each (λ r. P (id_of r)) rs
unfolding id_of
each_placed P k [] = refl
each_placed P k (r ∷ rs) = λ i. P (id_of r) × each_placed P (suc k) rs i

pairs_placed : (R : ℕ → ℕ → Type 0) (k : ℕ) (rs : List (List ℕ))
    → Pairs (λ a b. R a.model.model_id b.model.model_id) (placed k rs) ≡ Pairs (λ a b. R (id_of a) (id_of b)) rs
unfolding id_of
pairs_placed R k [] = refl
pairs_placed R k (r ∷ rs) = λ i. each_placed (R (id_of r)) (suc k) rs i × pairs_placed R (suc k) rs i

abbrev pub SlotsApart : List (List ℕ) → Type 0
SlotsApart rs = Pairs (FreeIfAlike id_of) rs

same_pairs : (bank : List ℕ) → Pairs (FreeIfAlike (λ (l : Listed). l.model.model_id)) (listed_of bank) ≡ SlotsApart (records_of bank)
same_pairs bank = ap (Pairs (FreeIfAlike (λ (l : Listed). l.model.model_id))) (listed_slots bank) ∙ pairs_placed (λ a b. a ≡ b → a ≡ 0) 0 (records_of bank)

pub slots_apart : (bank : List ℕ) → UniqueIds (live_in bank) → SlotsApart (records_of bank)
slots_apart bank u = subst (λ X. X) (same_pairs bank) (different-apart (λ (l : Listed). l.model.model_id) (listed_of bank) u)

pub apart_unique : (bank : List ℕ) → SlotsApart (records_of bank) → UniqueIds (live_in bank)
apart_unique bank h = apart-different (λ (l : Listed). l.model.model_id) (listed_of bank) (subst (λ X. X) (sym (same_pairs bank)) h)

-- ids stay where places are renamed
each_ids : (P : ℕ → Type 0) (f : ℕ → ℕ) (ls : List Listed) → Each (λ l. P l.model.model_id) (map (renamed f) ls) → Each (λ l. P l.model.model_id) ls
each_ids P f [] h = tt
each_ids P f (l ∷ ls) h = (h.0, each_ids P f ls h.1)

pub renamed_unique : (f : ℕ → ℕ) (ls : List Listed) → UniqueIds (map (renamed f) ls) → UniqueIds ls
renamed_unique f [] h = tt
renamed_unique f (l ∷ ls) h = (each_ids (λ id. l.model.model_id ≡ id → ⊥) f ls h.0, renamed_unique f ls h.1)

-- a record that goes with those below it and those above it: a free slot, one with an id that none of them has, or with the old one's id
abbrev pub GoesWith : List (List ℕ) → List ℕ → List (List ℕ) → Type 0
GoesWith lower r higher = Each (λ s. FreeIfAlike id_of s r) lower × Each (FreeIfAlike id_of r) higher

module _ (lower : List (List ℕ)) (here : List ℕ) (higher : List (List ℕ)) where
  pub free-goes : GoesWith lower free_slot higher
  free-goes = (each_all _ (λ s e. e ∙ free_id) lower, each_all _ (λ s e. free_id) higher)

  module _ (r : List ℕ) where
    pub new-goes : Each (λ s. id_of s ≡ id_of r → ⊥) (lower ++ here ∷ higher) → GoesWith lower r higher
    new-goes new =
        let P : List ℕ → Type 0 = λ s. id_of s ≡ id_of r → ⊥ in (
          each-so P (λ s. FreeIfAlike id_of s r) (λ s n e. absurd (n e)) lower (each-front P lower (here ∷ higher) new),
          each-so P (FreeIfAlike id_of r) (λ s n e. absurd (n (sym e))) higher (each_back P lower (here ∷ higher) new).1,
        )

    pub same-goes : id_of here ≡ id_of r → SlotsApart (lower ++ here ∷ higher) → GoesWith lower r higher
    same-goes same apart =
        let below = pairs-before (FreeIfAlike id_of) lower here higher apart in
        let above = pairs-after (FreeIfAlike id_of) lower here higher apart in (
          each-so (λ s. FreeIfAlike id_of s here) (λ s. FreeIfAlike id_of s r) (λ s h e. h (e ∙ sym same)) lower below,
          each-so (FreeIfAlike id_of here) (FreeIfAlike id_of r) (λ s h e. sym same ∙ h (same ∙ e)) higher above,
        )
