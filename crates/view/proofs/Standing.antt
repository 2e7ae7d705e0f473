-- The list of a bank with a model at an index: beyond the bank, and within it by the model's bytes. Assumes nothing.
use Rattle.rules.proofs.Kit.{ℕ, ◌≤◌, arith, ◌≡◌, ap, ◌∙◌, List, length, set, set_out}
use Rattle.rules.specs.{Records.listed, Records.listed_of, Records.model_fields, Records.model_of, Records.model_bytes, Records.records_in, View.with_model}
use Rattle.rules.specs.{declared.records.KernelModel.KernelModel}
use Rattle.packing.proofs.{Layouts.Fitting, Trips.model_back}
use Rattle.bank.proofs.Listing.{length-listed}

module _ (bank : List ℕ) (index : ℕ) (m : KernelModel) where
  -- AN INDEX BEYOND THE BANK LEAVES IT AS IT IS
  pub stands-beyond : records_in (length bank) ≤ index → with_model (listed_of bank) index m ≡ listed_of bank
  unfolding with_model
  stands-beyond h = set_out (listed_of bank) index (listed index m) (omega (arith, length-listed bank))

  -- THE MODEL'S BYTES STAND FOR THE MODEL, where its numbers fit their fields
  pub stands-inside : {stand : List ℕ} → Fitting (model_fields m) → stand ≡ model_bytes m
      → set (listed_of bank) index (listed index (model_of stand)) ≡ with_model (listed_of bank) index m
  unfolding with_model
  stands-inside fit e = ap (λ (x : KernelModel). set (listed_of bank) index (listed index x)) (ap model_of e ∙ model_back m fit)
