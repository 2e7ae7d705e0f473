-- Document 01, "Numbers handed back": validation of a policy with its catalogue.
use Rattle.std.specs.Prelude.{eqb, ltb, ℕ, List, [], ◌∷◌, ◌++◌, length}
use Rattle.std.proofs.Math.Option.{Option}
use Rattle.rules.specs.Limits.{max_bps, max_risk_multiplier, max_provider_id}
use Rattle.rules.specs.Choice.{equal}
use Rattle.rules.specs.Records.{Listed, listed_of}
use Rattle.rules.specs.Refused.{Fault, Faults, fault, policy_fault, model_fault, first_fault, bank_faults, refuse_if}
use Rattle.rules.specs.declared.records.KernelModel.{KernelModel}
use Rattle.rules.specs.declared.records.PolicySnapshot.{PolicySnapshot}

-- N10. A limit of the policy that is too high: hard risk limit (field 4) or minimum confidence (5) above 10,000, risk multiplier (6) above 50,000
abbrev pub limit_faults : ℕ → ℕ → ℕ → Faults
limit_faults most field value = refuse_if (ltb most value) (policy_fault field value)

unfoldable pub policy_faults : PolicySnapshot → Faults
policy_faults p =
    limit_faults max_bps 4 p.hard_risk_limit_bps
    ++ limit_faults max_bps 5 p.minimum_confidence_bps
    ++ limit_faults max_risk_multiplier 6 p.risk_penalty_multiplier_bps

-- N11. A catalogue with no record
unfoldable pub empty_faults : List Listed → Faults
empty_faults ls = refuse_if (eqb (length ls) 0) (fault 11)

-- N12. An id that one of the earlier records has
unfoldable pub repeat_faults : List ℕ → ℕ → Faults
repeat_faults [] id = []
repeat_faults (seen ∷ earlier) id = refuse_if (eqb seen id) (model_fault 12 0 id 0) ++ repeat_faults earlier id

-- N13. A provider above 63
unfoldable pub provider_faults : KernelModel → Faults
provider_faults m = refuse_if (ltb max_provider_id m.provider_id) (model_fault 13 0 m.model_id m.provider_id)

-- N14. Quality (field 7), then ceiling (field 8), above 10,000
abbrev pub range_faults : ℕ → ℕ → ℕ → Faults
range_faults field id value = refuse_if (ltb max_bps value) (model_fault 14 field id value)

unfoldable pub model_faults : KernelModel → Faults
model_faults m = range_faults 7 m.model_id m.quality_bps ++ range_faults 8 m.model_id m.risk_ceiling_bps

-- N26. One record, by the ids before it: 12, 13, 14
unfoldable pub record_faults : List ℕ → KernelModel → Faults
record_faults earlier m = repeat_faults earlier m.model_id ++ provider_faults m ++ model_faults m

-- N26. Record by record
unfoldable pub records_faults : List ℕ → List Listed → Faults
records_faults earlier [] = []
records_faults earlier (l ∷ ls) = record_faults earlier l.model ++ records_faults (earlier ++ (l.model.model_id ∷ [])) ls

-- N15. No record that is switched on
unfoldable pub off_faults : List Listed → Faults
off_faults [] = fault 15 ∷ []
off_faults (l ∷ ls) = equal l.model.enabled 0 (off_faults ls) []

-- N26. Validation: 10, 11, the records, 15
unfoldable pub catalog_faults : PolicySnapshot → List Listed → Faults
catalog_faults p ls = policy_faults p ++ empty_faults ls ++ records_faults [] ls ++ off_faults ls

-- N23, N26. `validate` over a bank
unfoldable pub validate_of : PolicySnapshot → List ℕ → Option Fault
validate_of p bank = first_fault (bank_faults bank ++ catalog_faults p (listed_of bank))
