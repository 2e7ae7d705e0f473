-- DEMAND 3, second half: what `decision_margin` answers is exact. Assumed: unique ids; and over any list, a cost that doesn't fall where prices rise.
use Rattle.rules.proofs.Kit.{ℕ, zero-le, ◌≡◌, refl, sym, ap, false, List, [], ◌∷◌, List-as-Memᴰ, List·Memᴰ·head, List·Memᴰ·not-nil, List·Memᴰ·tail, some, arith, eq-eqb, ne_eqb}
use Rattle.rules.specs.{Limits.ppm, Limits.max_u32, Limits.max_price_scale, Choice.equal, Records.Listed, Records.listed_of, Refused.no_fault, Refused.bank_faults}
use Rattle.rules.specs.{Numbers.is_rejection, Price.Cost, Price.cost_under, Decide.decision_by, Decide.decision_of, Listing.Reading, Listing.every_record}
use Rattle.rules.specs.{Listing.first_listed, Halving.Lowest, Halving.Highest, Halving.search_of, Halving.search_after_far_end, Levers.wins, Margin.margin_levers}
use Rattle.rules.specs.{Margin.margin_for, Margin.margin_by, Margin.decision_margin_over, Margin.decision_margin_of, declared.records.KernelInput.KernelInput}
use Rattle.rules.specs.{declared.records.PolicySnapshot.PolicySnapshot}
use Rattle.demands.specs.{Standing.RisesWithPrices, Standing.UniqueIds, Demand3.margin_quality, Demand3.margin_latency, Demand3.margin_price}
use Rattle.demands.specs.{Demand3.margin_ceiling, Demand3.question, Demand3.MarginExact, Demand3.MarginOfChoice}
use Rattle.demands.proofs.{Lists.each_member, Selected.chose_selects, Selected.executes, Favours.quality_ordered, Favours.latency_ordered}
use Rattle.demands.proofs.{Favours.price_ordered, Favours.ceiling_ordered, Favours.quality_today, Favours.latency_today, Favours.price_today}
use Rattle.demands.proofs.{Favours.ceiling_today, Varied.selects-on, Varied.turns-once, Varied.selected-today, Entries.used_sought, Entries.not_refused}
use Rattle.demands.proofs.{Entries.Answers, Entries.answers, Entries.kept, Entries.kept_quality, Rounding.cost_rises}

-- with unique ids a listed record is the first with its id
unique_first : (ls : List Listed) (k : Listed) → UniqueIds ls → List-as-Memᴰ k ls → first_listed k.model.model_id ls ≡ some k
unfolding first_listed equal
unique_first [] k u m = absurd (List·Memᴰ·not-nil m)
unique_first (l ∷ ls) k u (List·Memᴰ·head e) =
    rw (eq-eqb l.model.model_id k.model.model_id (ap (λ (i : Listed). i.model.model_id) (sym e))) (ap (λ i. some i) (sym e))
unique_first (l ∷ ls) k u (List·Memᴰ·tail m) =
    rw (ne_eqb l.model.model_id k.model.model_id (each_member (λ (i : Listed). l.model.model_id ≡ i.model.model_id → ⊥) u.0 m))
    (unique_first ls k u.1 m)

module _ (costs : Cost) (p : PolicySnapshot) (q : KernelInput) (ls : List Listed) (chose : is_rejection (decision_by costs p q ls) ≡ false) where
  module _ (l : Listed) (first : first_listed (decision_by costs p q ls).model ls ≡ some l) where
    -- the four searches of a margin, and what they found
    found-to-keep : let a = question costs p q ls (decision_by costs p q ls).model l.model in Answers (margin_by costs p q ls) a
        (search_of Lowest (wins a 1) 0 l.model.quality_bps) (search_after_far_end Highest (wins a 2) l.model.p95_latency_ms max_u32)
        (search_after_far_end Highest (wins a 3) ppm max_price_scale) (search_after_far_end Lowest (wins a 4) 0 l.model.risk_ceiling_bps)
    unfolding margin_by margin_for margin_levers
    found-to-keep =
        let d = decision_by costs p q ls in
        let a = question costs p q ls d.model l.model in
        answers (margin_by costs p q ls) a _ _ _ _ (rw (chose, first) (used_sought d.model d false (margin_levers a)))

    no-refusal : (margin_by costs p q ls).refusal ≡ no_fault
    unfolding margin_by margin_for
    no-refusal =
        let d = decision_by costs p q ls in
        rw (chose, first) (not_refused d.model d false (margin_levers (question costs p q ls d.model l.model)))

    -- Demand 3, second half. THE MARGIN IS EXACT, over any list with unique ids whose decision is no rejection, by any cost that doesn't fall where
    -- prices rise
    pub keep-exact : RisesWithPrices costs → UniqueIds ls
        → MarginExact (margin_by costs p q ls) (question costs p q ls (decision_by costs p q ls).model l.model)
    keep-exact rises unique =
        let id = (decision_by costs p q ls).model in
        let f = found-to-keep in
        let turns = turns-once costs rises p q ls id l unique first in
        let at = selected-today costs rises p q ls id l unique first (chose_selects id (decision_by costs p q ls) chose refl) in
        record {
          answered = no-refusal;
          quality =
              kept_quality (λ b. refl) (turns 1 Lowest quality_ordered (margin_quality l.model)) f.quality zero-le (at 1 _ (quality_today l.model));
          latency =
              kept (λ b. refl) (turns 2 Highest latency_ordered (margin_latency l.model)) f.latency (at 2 _ (latency_today l.model))
              (λ h. selects-on costs rises p q ls id l unique first 2 Highest latency_ordered l.model.p95_latency_ms max_u32 (omega arith)
              (at 2 _ (latency_today l.model)));
          price = kept (λ b. refl) (turns 3 Highest price_ordered margin_price) f.price (at 3 _ (price_today l.model)) (λ h. absurd (omega arith));
          ceiling =
              kept (λ b. refl) (turns 4 Lowest ceiling_ordered (margin_ceiling l.model)) f.ceiling (at 4 _ (ceiling_today l.model))
              (λ h. absurd (omega arith));
          whole = f.whole;
        }

  -- Demand 3, second half. The record that is varied is the chosen one
  pub choice-exact : RisesWithPrices costs → UniqueIds ls → MarginOfChoice costs p q ls (margin_by costs p q ls)
  choice-exact rises unique =
      let (l, f) = executes costs p q ls chose in
      let first : first_listed (decision_by costs p q ls).model ls ≡ some l = rw f.id (unique_first ls l unique f.chosen.member) in
      record { varied = l; first = first; place = sym f.place; exact = keep-exact l first rises unique }

-- Demand 3, second half. THE MARGIN IS EXACT, however a bank is read and its policy rounds, where nothing refuses it, its records have unique ids, and
-- its decision is no rejection
pub margin_over_exact : (p : PolicySnapshot) (q : KernelInput) (b : Reading) → b.faults ≡ [] → UniqueIds b.list
    → is_rejection (decision_of p q b.list) ≡ false → MarginOfChoice (cost_under p) p q b.list (decision_margin_over p q b)
margin_over_exact p q b none unique chose = rw none (choice-exact (cost_under p) p q b.list chose (cost_rises p.rounding) unique)

-- Demand 3, second half. So it is with every record of a bank
pub decision_margin_exact : (p : PolicySnapshot) (q : KernelInput) (bank : List ℕ) → bank_faults bank ≡ [] → UniqueIds (listed_of bank)
    → is_rejection (decision_of p q (listed_of bank)) ≡ false → MarginOfChoice (cost_under p) p q (listed_of bank) (decision_margin_of p q bank)
unfolding decision_margin_of
decision_margin_exact p q bank = margin_over_exact p q (every_record bank)
