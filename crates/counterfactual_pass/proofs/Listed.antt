-- What may be asked about the record that is found of an id. Assumes nothing.
use Rattle.rules.proofs.Kit.{ℕ, ◌≡◌, ap, ◌∙◌, List, [], some}
use Rattle.rules.specs.{Records.listed_of, Refused.bank_faults, Listing.first_listed, Listing.place_of, Decide.stopped_by}
use Rattle.rules.specs.{declared.records.KernelInput.KernelInput, declared.records.PolicySnapshot.PolicySnapshot}
use Rattle.kernel_ranking.specs.declared.state.Top.{Top}
use Rattle.call_checks.proofs.Finding.{found_at}
use Rattle.kernel_among.specs.Top.{top_in}
use Rattle.counterfactual_others.specs.Others.{others_of}
use Rattle.counterfactual_others.proofs.Offers.{others-offer}
use Rattle.counterfactual_pass.specs.{Asked.asked_from, Asked.Stands, declared.pass.Asked.Asked}

-- THE MODEL THAT WAS FOUND MAY BE ASKED ABOUT, where the request isn't stopped: its rival is the best of the others
pub stands_at : {k : Asked} {top : Top} (p : PolicySnapshot) (q : KernelInput) (bank : List ℕ) (id place : ℕ)
    → k ≡ asked_from p q bank id place top → top ≡ top_in p q (listed_of bank)
    → place_of (first_listed id (listed_of bank)) ≡ some place → bank_faults bank ≡ [] → stopped_by p q ≡ 0 → Stands k bank
stands_at p q bank id place e t first whole free =
    let best = ap (λ (t : Top). others_of t place) t ∙ others-offer bank place (found_at bank id place first).1 p q free in
    rw e (record { first = first; whole = whole; free = free; best = best })
