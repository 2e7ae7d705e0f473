-- The margin, case by case. Assumes nothing.
use Rattle.rules.proofs.Kit.{ℕ, ◌/◌, ◌<◌, ◌≡◌, sym, ap, ◌∙◌, true, false, List, Option, none, some, length}
use Rattle.rules.specs.{Records.listed_of, Refused.fault, Numbers.Decision, Numbers.is_rejection, Listing.first_listed, Listing.place_of, Decide.stopped_by}
use Rattle.rules.specs.{Decide.decision_of, Levers.boundary_of, Levers.boundary_refused, Margin.margin_levers, Margin.margin_if_listed, Margin.margin_for}
use Rattle.rules.specs.{Margin.margin_by, Margin.margin_in, Price.cost_under, declared.records.KernelInput.KernelInput}
use Rattle.rules.specs.{declared.records.PolicySnapshot.PolicySnapshot}
use Rattle.rules.specs.{Numbers.told_option, declared.refusal.Refusal.Refusal}
use Rattle.std.specs.Prelude.{Option as Found, Some, None, Ok, Err, ok_or}
use Rattle.rules.proofs.Stopped.{not_stopped}
use Rattle.kernel_ranking.specs.declared.state.Top.{Top}
use Rattle.live_slots.specs.Among.{among_of, Among}
use Rattle.live_slots.proofs.Among.{first_read}
use Rattle.call_checks.proofs.Finding.{found_at, found_nothing}
use Rattle.counterfactual_pass.proofs.AmongQuestions.{chosen-other, margin-read}
use Rattle.counterfactual_pass.specs.{Asked.asked_from, Asked.question_in, declared.pass.Asked.Asked}

-- A PLACE THAT IS THERE was found, and where it is missing nothing was
pub place_found : (o : Found ℕ) (r : Refusal) {place : ℕ} {found : Option ℕ} → Ok place ≡ ok_or o r → told_option o ≡ found → found ≡ some place
place_found None r e told = cc
place_found (Some n) r {place} e told = sym told ∙ (let z : n ≡ place = cc in ap some z)

pub place_missing : (o : Found ℕ) (r : Refusal) {k : Refusal} {found : Option ℕ} → Err k ≡ ok_or o r → told_option o ≡ found → (found ≡ none) × (k ≡ r)
place_missing None r e told = (sym told, cc)
place_missing (Some n) r e told = cc

module _ (p : PolicySnapshot) (q : KernelInput) (many : ℕ) (bank : List ℕ) {d : Decision} (decided : d ≡ decision_of p q (among_of many bank)) where
  -- A REJECTION HAS NO MARGIN
  pub margin-rejected : is_rejection d ≡ true → margin_in p q (among_of many bank) ≡ boundary_refused (fault 6)
  unfolding margin_by margin_for
  margin-rejected r = rw (sym decided, r)

  module _ (kept : is_rejection d ≡ false) where
    chosen : margin_in p q (among_of many bank) ≡ margin_if_listed (cost_under p) p q (among_of many bank) d (first_listed d.model (among_of many bank))
    unfolding margin_by margin_for
    chosen = rw (sym decided, kept)

    -- WHAT IS NO REJECTION WAS NOT STOPPED
    pub chosen-free : stopped_by p q ≡ 0
    chosen-free = not_stopped (cost_under p) p q (among_of many bank) (ap is_rejection (sym decided) ∙ kept)

    module _ (seen : Among many bank) where
      other : many < length bank / 47 → d.model ≡ 0 → ⊥
      other h z = chosen-other many bank seen p q (ap is_rejection (sym decided) ∙ kept) h (ap (λ (x : Decision). x.model) (sym decided) ∙ z)

      -- THE FIRST LISTED RECORD WITH THE CHOSEN ID, of all, decides
      margin-first : margin_in p q (among_of many bank) ≡ margin_if_listed (cost_under p) p q (among_of many bank) d (first_listed d.model (listed_of bank))
      margin-first = chosen ∙ ap (margin_if_listed (cost_under p) p q (among_of many bank) d) (first_read many bank seen d.model other)

      pub margin-nowhere : place_of (first_listed d.model (listed_of bank)) ≡ none → margin_in p q (among_of many bank) ≡ boundary_refused (fault 6)
      margin-nowhere e = margin-first ∙ ap (margin_if_listed (cost_under p) p q (among_of many bank) d) (found_nothing bank d.model e)

      -- AND IS VARIED, over every record
      pub margin-listed : {k : Asked} (place : ℕ) (top : Top) → k ≡ asked_from p q bank d.model place top
          → place_of (first_listed d.model (listed_of bank)) ≡ some place
          → margin_in p q (among_of many bank) ≡ boundary_of d.model d false (margin_levers (question_in k bank))
      unfolding question_in
      margin-listed place top e f =
          rw e (margin-first ∙ ap (margin_if_listed (cost_under p) p q (among_of many bank) d) (found_at bank d.model place f).0
          ∙ ap (boundary_of d.model d false) (margin-read many bank seen p q d.model place other f))
