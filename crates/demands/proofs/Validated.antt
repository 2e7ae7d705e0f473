-- A bank that validation accepts is sound: what demand 3 asks of a bank holds for it. Assumes nothing.
use Rattle.rules.proofs.Kit.{ℕ, ◌≡◌, List, [], ◌∷◌, ◌++◌, eqb-false, eqb}
use Rattle.rules.specs.{Limits.max_bps, Records.Listed, Records.listed_of, Refused.refuse_if, Refused.no_fault, Refused.model_fault, Refused.bank_faults, Order.Each}
use Rattle.rules.specs.{Validate.policy_faults, Validate.empty_faults, Validate.repeat_faults, Validate.provider_faults, Validate.range_faults, Validate.model_faults}
use Rattle.rules.specs.{Validate.record_faults, Validate.records_faults, Validate.off_faults, Validate.catalog_faults, Validate.validate_of}
use Rattle.rules.specs.{declared.records.KernelModel.KernelModel, declared.records.PolicySnapshot.PolicySnapshot}
use Rattle.rules.proofs.{Faults.none_first, Faults.none_after, Faults.none_found, Faults.test_none, Faults.below_none, Sorted.each-so, Sorted.each-middle}
use Rattle.demands.specs.{Standing.UniqueIds, Demand3.BpsWithin, Demand3.Sound}
use Rattle.demands.proofs.Lists.{each-front}

-- ---- no fault of the records: ids differ, qualities and ceilings are within 10,000

-- an id that no earlier one is
not_seen : (earlier : List ℕ) (id : ℕ) → repeat_faults earlier id ≡ [] → Each (λ seen. seen ≡ id → ⊥) earlier
unfolding repeat_faults
not_seen [] id e = tt
not_seen (seen ∷ earlier) id e =
    let this = refuse_if (eqb seen id) (model_fault 12 0 id 0) in
    (eqb-false seen id (test_none (eqb seen id) (model_fault 12 0 id 0) (none_first this _ e)), not_seen earlier id (none_after this _ e))

model_within : (m : KernelModel) → model_faults m ≡ [] → BpsWithin 10000 m
unfolding model_faults
model_within m e =
    let quality = range_faults 7 m.model_id m.quality_bps in
    let ceiling = range_faults 8 m.model_id m.risk_ceiling_bps in (
      below_none max_bps m.quality_bps (model_fault 14 7 m.model_id m.quality_bps) (none_first quality ceiling e),
      below_none max_bps m.risk_ceiling_bps (model_fault 14 8 m.model_id m.risk_ceiling_bps) (none_after quality ceiling e),
    )

-- of a list after ids that are seen: none of them is seen again, and the rest
record Accepted (earlier : List ℕ) (ls : List Listed) : Type 0 where
  fresh : Each (λ l. Each (λ seen. seen ≡ l.model.model_id → ⊥) earlier) ls
  unique : UniqueIds ls
  within : Each (λ l. BpsWithin 10000 l.model) ls

accepted : (earlier : List ℕ) (ls : List Listed) → records_faults earlier ls ≡ [] → Accepted earlier ls
unfolding records_faults record_faults
accepted earlier [] e = record { fresh = tt; unique = tt; within = tt }
accepted earlier (l ∷ ls) e =
    let id = l.model.model_id in
    let r = accepted (earlier ++ (id ∷ [])) ls (none_after (record_faults earlier l.model) _ e) in
    let this = none_first (record_faults earlier l.model) (records_faults (earlier ++ (id ∷ [])) ls) e in
    record {
      fresh = (
        not_seen earlier id (none_first (repeat_faults earlier id) _ (none_first _ (model_faults l.model) this)),
        each-so _ _ (λ k h. each-front _ earlier (id ∷ []) h) ls r.fresh,
      );
      unique = (each-so _ _ (λ k h. each-middle _ earlier id [] h) ls r.fresh, r.unique);
      within = (model_within l.model (none_after (repeat_faults earlier id ++ provider_faults l.model) _ this), r.within);
    }

-- no fault of a catalogue: its records are accepted
records_accepted : (p : PolicySnapshot) (ls : List Listed) → catalog_faults p ls ≡ [] → Accepted [] ls
unfolding catalog_faults
records_accepted p ls e =
    accepted [] ls (none_after (policy_faults p ++ empty_faults ls) (records_faults [] ls) (none_first _ (off_faults ls) e))

pub catalog_unique : (p : PolicySnapshot) (ls : List Listed) → catalog_faults p ls ≡ [] → UniqueIds ls
catalog_unique p ls e = (records_accepted p ls e).unique

-- Demand 3. A BANK THAT VALIDATION ACCEPTS IS SOUND: no fault of its length, unique ids, qualities and ceilings within 10,000
pub validated_sound : (p : PolicySnapshot) (bank : List ℕ) → validate_of p bank ≡ no_fault → Sound bank
unfolding validate_of
validated_sound p bank e =
    let ls = listed_of bank in
    let all = none_found (bank_faults bank ++ catalog_faults p ls) e in
    let a = records_accepted p ls (none_after (bank_faults bank) (catalog_faults p ls) all) in
    record { faultless = none_first (bank_faults bank) (catalog_faults p ls) all; unique = a.unique; within = a.within }
