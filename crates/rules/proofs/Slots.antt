-- Slots: the live ones of any things with an id, a bank as a list of slots, and what a bank without 34 has. Assumes nothing.
use Rattle.rules.proofs.Kit.{ℕ, zero, suc, ◌+◌, ◌*◌, ◌/◌, ◌%◌, ◌≤◌, ◌≡◌, refl, sym, ap, ◌∙◌, Bool, true, false, not, ◌&&◌, List, [], ◌∷◌, ◌++◌}
use Rattle.rules.proofs.Kit.{append-nil, arith, none, some, replicate, eqb, eqb-true, eq-eqb, ⊎_elim, length, take, drop, take_all, drop-drop}
use lib.ListN.{replicate-append-replicate}
use Rattle.rules.specs.{Order.Each, Bytes.number, Records.Listed, Records.listed, Records.listed_from, Records.listed_of, Records.model_of, Records.model_at}
use Rattle.rules.specs.{Refused.fault, Refused.refuse_if, Refused.length_faults, Listing.first_listed, Trust.records_from, Trust.records_of, Trust.joined}
use Rattle.rules.specs.{Trust.id_of}
use Rattle.rules.specs.{Slots.free_slot, Slots.is_blank, Slots.slot_faults, Slots.live_faults, Slots.live_by, Slots.live_slots, Slots.live_of, Slots.live_in}
use Rattle.rules.proofs.{Choices.equal-yes, Choices.equal-no, Orders.same_or_not, Faults.none_first, Faults.none_after, Faults.test_none}
use Rattle.rules.proofs.{Faults.whole_length, Faults.few_records, Chunks.Whole, Chunks.records_length, Chunks.whole_records, Chunks.joined_length}
use Rattle.rules.proofs.{Chunks.joined_records, Chunks.records_joined}

-- ---- the live ones of any list

module _ {A : Type 0} (id : A → ℕ) where
  pub live-none : live_by id [] ≡ []
  unfolding live_by
  live-none = refl

  pub live-left : (x : A) (xs : List A) → id x ≡ 0 → live_by id (x ∷ xs) ≡ live_by id xs
  unfolding live_by
  live-left x xs e = equal-yes _ _ _ _ e

  pub live-kept : (x : A) (xs : List A) → (id x ≡ 0 → ⊥) → live_by id (x ∷ xs) ≡ x ∷ live_by id xs
  unfolding live_by
  live-kept x xs n = equal-no _ _ _ _ n

  pub live-append : (xs ys : List A) → live_by id (xs ++ ys) ≡ live_by id xs ++ live_by id ys
  live-append [] ys = rw live-none
  live-append (x ∷ xs) ys =
      ⊎_elim
      (λ e. rw (live-left x (xs ++ ys) e, live-left x xs e, live-append xs ys))
      (λ n. rw (live-kept x (xs ++ ys) n, live-kept x xs n, live-append xs ys))
      (same_or_not (id x) 0)

  pub live-fewer : (xs : List A) → length (live_by id xs) ≤ length xs
  live-fewer [] = rw live-none (omega arith)
  live-fewer (x ∷ xs) =
      ⊎_elim
      (λ e. rw (live-left x xs e) (omega (arith, live-fewer xs)))
      (λ n. rw (live-kept x xs n) (omega (arith, live-fewer xs)))
      (same_or_not (id x) 0)

  pub live-each : (P : A → Type 0) (xs : List A) → Each P xs → Each P (live_by id xs)
  live-each P [] h = rw live-none tt
  live-each P (x ∷ xs) h =
      ⊎_elim
      (λ e. rw (live-left x xs e) (live-each P xs h.1))
      (λ n. rw (live-kept x xs n) (h.0, live-each P xs h.1))
      (same_or_not (id x) 0)

  -- NONE THAT IS LIVE HAS ID 0
  pub live-some : (xs : List A) → Each (λ x. id x ≡ 0 → ⊥) (live_by id xs)
  live-some [] = rw live-none tt
  live-some (x ∷ xs) =
      ⊎_elim
      (λ e. rw (live-left x xs e) (live-some xs))
      (λ n. rw (live-kept x xs n) (n, live-some xs))
      (same_or_not (id x) 0)

  -- WHERE NONE HAS ID 0 all are live
  pub live_all : (xs : List A) → Each (λ x. id x ≡ 0 → ⊥) xs → live_by id xs ≡ xs
  live_all [] h = live-none
  live_all (x ∷ xs) h = live-kept x xs h.0 ∙ ap (λ (ys : List A). x ∷ ys) (live_all xs h.1)

  -- and they are where as many are live
  pub live-full : (xs : List A) → length xs ≤ length (live_by id xs) → live_by id xs ≡ xs
  live-full [] h = live-none
  live-full (x ∷ xs) h =
      ⊎_elim
      (λ e. let g = rw (live-left x xs e) at h in absurd (omega (arith, live-fewer xs, g)))
      (λ n. live-kept x xs n ∙ ap (λ (ys : List A). x ∷ ys) (live-full xs (let g = rw (live-kept x xs n) at h in omega (arith, g))))
      (same_or_not (id x) 0)

-- ---- the first listed record with an id

-- FOR ANY ID BUT 0 the first live record is the first of all
pub first_live : (id : ℕ) → (id ≡ 0 → ⊥) → (ls : List Listed) → first_listed id (live_of ls) ≡ first_listed id ls
unfolding first_listed
first_live id other [] = rw (live-none (λ (l : Listed). l.model.model_id))
first_live id other (l ∷ ls) =
    let own : Listed → ℕ = λ k. k.model.model_id in
    ⊎_elim
    (λ e. ap (first_listed id) (live-left own l ls e) ∙ first_live id other ls
    ∙ sym (equal-no l.model.model_id id (some l) (first_listed id ls) (λ k. other (sym k ∙ e))))
    (λ n. ap (first_listed id) (live-kept own l ls n) ∙ rw (first_live id other ls))
    (same_or_not l.model.model_id 0)

-- AND ID 0 IS NO LIVE RECORD'S
pub none_lacks : (id : ℕ) (ls : List Listed) → Each (λ l. l.model.model_id ≡ id → ⊥) ls → first_listed id ls ≡ none
unfolding first_listed
none_lacks id [] h = refl
none_lacks id (l ∷ ls) h = equal-no l.model.model_id id (some l) (first_listed id ls) h.0 ∙ none_lacks id ls h.1

pub none_zero : (ls : List Listed) → first_listed 0 (live_of ls) ≡ none
none_zero ls = none_lacks 0 (live_of ls) (live-some (λ (l : Listed). l.model.model_id) ls)

-- ---- a bank lists its slots

-- Slots listed from a place on
abbrev pub placed : ℕ → List (List ℕ) → List Listed
placed k [] = []
placed k (r ∷ rs) = listed k (model_of r) ∷ placed (suc k) rs

listed_from_lem : (bank : List ℕ) (place n : ℕ) → listed_from bank place n ≡ placed place (records_from n (drop (47 * place) bank))
unfolding records_from
listed_from_lem bank place zero = refl
listed_from_lem bank place (suc n) =
    let e : 47 * place + 47 ≡ 47 * suc place = omega arith in
    rw (drop-drop 47 (47 * place) bank, e) (ap (λ (ls : List Listed). listed place (model_at bank place) ∷ ls) (listed_from_lem bank (suc place) n))

pub listed_slots : (bank : List ℕ) → listed_of bank ≡ placed 0 (records_of bank)
unfolding listed_of
listed_slots bank = listed_from_lem bank 0 (length bank / 47)

-- the live ones among them
pub placed_free : (k : ℕ) (r : List ℕ) (rs : List (List ℕ)) → id_of r ≡ 0 → live_of (placed k (r ∷ rs)) ≡ live_of (placed (suc k) rs)
unfolding id_of
placed_free k r rs e = live-left (λ (l : Listed). l.model.model_id) (listed k (model_of r)) (placed (suc k) rs) e

pub placed_live : (k : ℕ) (r : List ℕ) (rs : List (List ℕ)) → (id_of r ≡ 0 → ⊥)
    → live_of (placed k (r ∷ rs)) ≡ listed k (model_of r) ∷ live_of (placed (suc k) rs)
unfolding id_of
placed_live k r rs n = live-kept (λ (l : Listed). l.model.model_id) (listed k (model_of r)) (placed (suc k) rs) n

pub placed_none : (k : ℕ) → live_of (placed k []) ≡ []
placed_none k = live-none (λ (l : Listed). l.model.model_id)

-- AS MANY RECORDS AS SLOTS ARE LIVE
pub placed-many : (k : ℕ) (rs : List (List ℕ)) → length (live_of (placed k rs)) ≡ length (live_slots rs)
placed-many k [] = rw (placed_none k, live-none id_of)
placed-many k (r ∷ rs) =
    ⊎_elim
    (λ e. rw (placed_free k r rs e, live-left id_of r rs e) (placed-many (suc k) rs))
    (λ n. rw (placed_live k r rs n, live-kept id_of r rs n) (ap suc (placed-many (suc k) rs)))
    (same_or_not (id_of r) 0)

pub live_many : (bank : List ℕ) → length (live_in bank) ≡ length (live_slots (records_of bank))
live_many bank = rw (listed_slots bank) (placed-many 0 (records_of bank))

-- ---- a bank of whole slots

pub slots_whole : (bank : List ℕ) → Whole (records_of bank)
slots_whole bank = whole_records (length bank / 47) bank (omega arith)

pub slots_length : (bank : List ℕ) → length (records_of bank) ≡ length bank / 47
slots_length bank = records_length (length bank / 47) bank

pub joined_slots : (bank : List ℕ) → length bank % 47 ≡ 0 → joined (records_of bank) ≡ bank
joined_slots bank whole = joined_records (length bank / 47) bank ∙ take_all (47 * (length bank / 47)) bank (omega arith)

-- SLOTS JOINED ARE THE SLOTS OF THAT BANK
pub slots_joined : (rs : List (List ℕ)) → Whole rs → records_of (joined rs) ≡ rs
slots_joined rs all =
    let e : length (joined rs) / 47 ≡ length rs = omega (arith, joined_length rs all) in
    (λ i. records_from (e i) (sym (append-nil (joined rs)) i)) ∙ records_joined rs [] all

-- FREE SLOTS, JOINED, ARE ZEROS
pub free_joined : (n : ℕ) → joined (replicate n free_slot) ≡ replicate (47 * n) 0
unfolding joined
free_joined zero = refl
free_joined (suc n) =
    let more : 47 + 47 * n ≡ 47 * suc n = omega arith in
    rw (free_joined n) (replicate-append-replicate 47 (47 * n) 0 ∙ ap (λ (m : ℕ). replicate m 0) more)

-- ---- what passes 1, 2 and 34

module _ (bank : List ℕ) (clean : live_faults bank ≡ []) where
  pub live-whole : length bank % 47 ≡ 0
  unfolding live_faults
  live-whole = whole_length (length bank) (none_first (length_faults (length bank)) (slot_faults (records_of bank)) clean)

  pub live-few : length bank / 47 ≤ 65535
  unfolding live_faults
  live-few = few_records (length bank) (none_first (length_faults (length bank)) (slot_faults (records_of bank)) clean)

  pub live-length : length_faults (length bank) ≡ []
  unfolding live_faults
  live-length = none_first (length_faults (length bank)) (slot_faults (records_of bank)) clean

  pub live-clear : slot_faults (records_of bank) ≡ []
  unfolding live_faults
  live-clear = none_after (length_faults (length bank)) (slot_faults (records_of bank)) clean

-- a slot with id 0 that passes is blank
clear_blank : (r : List ℕ) (rs : List (List ℕ)) → slot_faults (r ∷ rs) ≡ [] → id_of r ≡ 0 → is_blank r ≡ true
unfolding slot_faults
clear_blank r rs h e = go (is_blank r) (rw (eq-eqb (id_of r) 0 e) at (test_none (eqb (id_of r) 0 && not (is_blank r)) (fault 34) (none_first _ (slot_faults rs) h)))
  where
    go : (t : Bool) → (true && not t) ≡ false → t ≡ true
    go true f = refl
    go false f = absurd (let w : ◌≡◌ {A = ℕ} 0 1 = cc in omega arith)

clear_rest : (r : List ℕ) (rs : List (List ℕ)) → slot_faults (r ∷ rs) ≡ [] → slot_faults rs ≡ []
unfolding slot_faults
clear_rest r rs h = none_after (refuse_if (eqb (id_of r) 0 && not (is_blank r)) (fault 34)) (slot_faults rs) h

-- EACH SLOT OF A BANK WITHOUT 34 is live or blank
pub clear_each : (rs : List (List ℕ)) → slot_faults rs ≡ [] → Each (λ r. id_of r ≡ 0 → is_blank r ≡ true) rs
clear_each [] h = tt
clear_each (r ∷ rs) h = (clear_blank r rs h, clear_each rs (clear_rest r rs h))

-- any part of blank bytes says 0
blank_cons : (b : ℕ) (bs : List ℕ) → is_blank (b ∷ bs) ≡ true → (b ≡ 0) × (is_blank bs ≡ true)
unfolding is_blank
blank_cons b bs h = go (eqb b 0) refl h
  where
    go : (t : Bool) → eqb b 0 ≡ t → (t && is_blank bs) ≡ true → (b ≡ 0) × (is_blank bs ≡ true)
    go true e f = (eqb-true b 0 e, f)
    go false e f = absurd (let w : ◌≡◌ {A = ℕ} 0 1 = cc in omega arith)

pub part_blank : (k n : ℕ) (s : List ℕ) → is_blank s ≡ true → number (take n (drop k s)) ≡ 0
unfolding number
part_blank zero zero s h = refl
part_blank zero (suc n) [] h = refl
part_blank zero (suc n) (b ∷ bs) h = let c = blank_cons b bs h in omega (arith, c.0, part_blank zero n bs c.1)
part_blank (suc k) n [] h = nothing n
  where
    nothing : (n : ℕ) → number (take n []) ≡ 0
    nothing zero = refl
    nothing (suc n) = refl
part_blank (suc k) n (b ∷ bs) h = part_blank k n bs (blank_cons b bs h).1

-- A record with id 0 is switched off, as a free slot is
abbrev pub FreeOff : List Listed → Type 0
FreeOff ls = Each (λ l. l.model.model_id ≡ 0 → l.model.enabled ≡ 0) ls

slots_off : (k : ℕ) (rs : List (List ℕ)) → Each (λ r. id_of r ≡ 0 → is_blank r ≡ true) rs → FreeOff (placed k rs)
unfolding id_of model_of
slots_off k [] h = tt
slots_off k (r ∷ rs) h = (λ e. part_blank 10 1 r (h.0 e), slots_off (suc k) rs h.1)

-- A BANK WITHOUT 34 has no slot with id 0 that is switched on
pub bank_off : (bank : List ℕ) → slot_faults (records_of bank) ≡ [] → FreeOff (listed_of bank)
bank_off bank h = rw (listed_slots bank) (slots_off 0 (records_of bank) (clear_each (records_of bank) h))
