-- What `trust` does to the bank, whether it refuses it or not. Assumes nothing.
use Rattle.rules.proofs.Kit.{ℕ, ◌%◌, ◌≡◌, refl, subst, ap, Bool, true, false, List, [], ◌∷◌, ◌++◌, List-as-Permᴰ, Permᴰ·refl, arith, le-ltb, eqb-true, eqb, ltb}
use Rattle.rules.proofs.Kit.{length}
use Rattle.rules.specs.{Limits.record_bytes, Choice.below, Choice.equal, Order.InOrder, Bytes.number, Records.model_of, Records.listed_of, Refused.Faults}
use Rattle.rules.specs.{Refused.length_faults, Refused.unless, Trust.reserved_faults, Trust.flag_faults, Trust.early_faults, Trust.records_from, Trust.joined}
use Rattle.rules.specs.{Trust.id_of, Trust.lower_id, Trust.ordered_of, Trust.trust_bank, Trust.records_of}
use Rattle.rules.proofs.{Sorted.passing, Sorted.sorted-permutes, Sorted.sorted-in-order, Sorted.sorted-stable, Faults.early_whole}
use Rattle.rules.proofs.{Chunks.by_id, Chunks.same_length, Chunks.its-records, Chunks.order_again, Example.model_one, Example.model_two, Example.with}

-- a law of the bank as it was and of the ordered one is a law of the bank at exit
by_cases : (P : List ℕ → Type 0) (bank : List ℕ) → P bank → (length bank % record_bytes ≡ 0 → P (ordered_of bank)) → P (trust_bank bank)
unfolding trust_bank
by_cases P bank as_it_was ordered = go (early_faults bank) (λ none. ordered (early_whole bank none))
  where
    go : (fs : Faults) → (fs ≡ [] → P (ordered_of bank)) → P (unless fs (λ f. bank) (ordered_of bank))
    go [] h = h refl
    go (f ∷ fs) h = as_it_was

-- Whether a record has this id
abbrev has_id : ℕ → List ℕ → Bool
has_id id r = eqb (id_of r) id

module _ (bank : List ℕ) where
  -- N26. Where nothing is found before the ordering, the bank is in ascending id order: none has a lower id than one before it
  pub trust-ascends : early_faults bank ≡ [] → InOrder lower_id (records_of (trust_bank bank))
  unfolding trust_bank
  trust-ascends none = rw (none, its-records bank (early_whole bank none)) (sorted-in-order by_id (records_of bank))

  -- N24, N26. The bank has the same records, each as often, and is as long as it was
  pub trust-keeps-records : List-as-Permᴰ (records_of (trust_bank bank)) (records_of bank)
  trust-keeps-records =
      by_cases (λ b. List-as-Permᴰ (records_of b) (records_of bank)) bank (Permᴰ·refl (records_of bank))
      (λ whole. rw (its-records bank whole) (sorted-permutes lower_id (records_of bank)))

  pub trust-keeps-length : length (trust_bank bank) ≡ length bank
  trust-keeps-length = by_cases (λ b. length b ≡ length bank) bank refl (same_length bank)

  -- N26. The records of one id stay in their old order
  pub trust-keeps-old-order : (id : ℕ) → passing (has_id id) (records_of (trust_bank bank)) ≡ passing (has_id id) (records_of bank)
  trust-keeps-old-order id =
      by_cases (λ b. passing (has_id id) (records_of b) ≡ passing (has_id id) (records_of bank)) bank refl
      (λ whole. rw (its-records bank whole) (sorted-stable by_id (λ a b c e p. subst (λ (n : ℕ). ltb (id_of c) n ≡ true) e p) (has_id id) level (records_of bank)))
    where
      level : (a b : List ℕ) → has_id id a ≡ true → has_id id b ≡ true → lower_id a b ≡ false
      level a b p q = le-ltb (id_of a) (id_of b) (omega (arith, eqb-true (id_of a) id p, eqb-true (id_of b) id q))

-- N26. Trusting a trusted bank changes nothing
pub trust_again : (bank : List ℕ) → trust_bank (trust_bank bank) ≡ trust_bank bank
unfolding trust_bank
trust_again bank = go (early_faults bank) refl
  where
    go : (fs : Faults) → early_faults bank ≡ fs → trust_bank (unless fs (λ f. bank) (ordered_of bank)) ≡ unless fs (λ f. bank) (ordered_of bank)
    go [] e = by_cases (λ b. b ≡ ordered_of bank) (ordered_of bank) refl (λ whole. order_again bank (early_whole bank e))
    go (f ∷ fs) e = ap (λ (gs : Faults). unless gs (λ f. bank) (ordered_of bank)) e

-- ---- at the example's models, the second one twice and first: its twin has a quality of its own

abbrev twin : List ℕ
twin = with 6 (65 ∷ []) model_two

abbrev three : List ℕ
three = model_two ++ model_one ++ twin

put_in_order : trust_bank three ≡ model_one ++ model_two ++ twin
unfolding below equal number model_of listed_of length_faults reserved_faults flag_faults early_faults records_from joined id_of ordered_of trust_bank
put_in_order = refl

nothing_early : early_faults three ≡ []
unfolding below equal number model_of listed_of length_faults reserved_faults flag_faults early_faults
nothing_early = refl

ascends : InOrder lower_id (records_of (model_one ++ model_two ++ twin))
ascends = subst (λ b. InOrder lower_id (records_of b)) put_in_order (trust-ascends three nothing_early)

same_records : List-as-Permᴰ (model_one ∷ model_two ∷ twin ∷ []) (model_two ∷ model_one ∷ twin ∷ [])
unfolding records_from
same_records = subst (λ b. List-as-Permᴰ (records_of b) (records_of three)) put_in_order (trust-keeps-records three)

as_long : length (trust_bank three) ≡ 141
as_long = trust-keeps-length three

old_order : passing (has_id 2) (records_of (trust_bank three)) ≡ model_two ∷ twin ∷ []
unfolding records_from id_of model_of number
old_order = trust-keeps-old-order three 2

unchanged : trust_bank (model_one ++ model_two ++ twin) ≡ model_one ++ model_two ++ twin
unchanged = subst (λ b. trust_bank b ≡ b) put_in_order (trust_again three)
