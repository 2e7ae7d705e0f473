-- DEMAND 3 in words: the searched settings, and what it is for the answers of `what_would_win` and `decision_margin` to be exact, by any rule of
-- cost; the calls' own is that of their policy's rounding, `cost_under p`.
use Rattle.std.specs.Prelude.{ℕ, ◌+◌, ◌-◌, ◌^◌, ◌≤◌, ◌<◌, ◌≡◌, Bool, true, false, cond, List, [], ◌∷◌, ◌++◌, ◌↔◌, Some, None}
use Rattle.std.specs.Prelude as declared
use Rattle.std.proofs.Math.Option.{Option, none, some}
use Rattle.rules.specs.Choice.{equal}
use Rattle.rules.specs.Order.{Each}
use Rattle.rules.specs.Records.{Listed, listed_of}
use Rattle.rules.specs.Refused.{no_fault, bank_faults, unless}
use Rattle.rules.specs.Numbers.{is_rejection, Entry, Boundary}
use Rattle.rules.specs.Price.{Cost, cost_under}
use Rattle.rules.specs.Decide.{stopped_by, decision_by}
use Rattle.rules.specs.Listing.{Reading, every_record, first_listed}
use Rattle.rules.specs.Halving.{Side, Lowest, Highest, search_of, search_after_far_end, passes_of}
use Rattle.rules.specs.Printed.{entries_of}
use Rattle.rules.specs.Levers.{Question, selects, decision_at, wins, entry}
use Rattle.rules.specs.declared.boundary.Bound.{Bound}
use Rattle.rules.specs.declared.records.KernelModel.{KernelModel}
use Rattle.rules.specs.declared.records.KernelInput.{KernelInput}
use Rattle.rules.specs.declared.records.PolicySnapshot.{PolicySnapshot}
use Rattle.demands.specs.Standing.{UniqueIds}
use Rattle.demands.specs.Exact.{Range, range, BoundaryAt, Somewhere, Nowhere, Everywhere, NotEverywhere}

-- ---- the searched settings: every number of a lever's range

-- What would win: quality from today to 10,000, latency from 0 to today, price scale from 0 to a million, ceiling from today to 10,000
abbrev pub win_quality : KernelModel → Range
win_quality m = range m.quality_bps 10000

abbrev pub win_latency : KernelModel → Range
win_latency m = range 0 m.p95_latency_ms

abbrev pub win_price : Range
win_price = range 0 1000000

abbrev pub win_ceiling : KernelModel → Range
win_ceiling m = range m.risk_ceiling_bps 10000

-- Margin: quality from 0 to today, latency from today to 2 ^ 32 - 1, price scale from a million to a thousand million, ceiling from 0 to today
abbrev pub margin_quality : KernelModel → Range
margin_quality m = range 0 m.quality_bps

abbrev pub margin_latency : KernelModel → Range
margin_latency m = range m.p95_latency_ms (2 ^ 32 - 1)

abbrev pub margin_price : Range
margin_price = range 1000000 1000000000

abbrev pub margin_ceiling : KernelModel → Range
margin_ceiling m = range 0 m.risk_ceiling_bps

-- ---- an answer's entries

-- What is asked about: a rule of cost, a policy, a request, a list, an id, and the model of the first listed record with that id
abbrev pub question : Cost → PolicySnapshot → KernelInput → List Listed → ℕ → KernelModel → Question
question costs p q ls id m = record { costs = costs; policy = p; request = q; list = ls; id = id; model = m }

-- The entry of each lever where its boundary is b: number, setting of today, boundary; of the price also the decision's cost there
abbrev pub quality_entry : Question → ℕ → Entry
quality_entry a b = entry 1 a.model.quality_bps b none

abbrev pub latency_entry : Question → ℕ → Entry
latency_entry a b = entry 2 a.model.p95_latency_ms b none

abbrev pub price_entry : Question → ℕ → Entry
price_entry a b = entry 3 1000000 b (some (decision_at a 3 b).cost)

abbrev pub ceiling_entry : Question → ℕ → Entry
ceiling_entry a b = entry 4 a.model.risk_ceiling_bps b none

abbrev pub enabled_entry : Entry
enabled_entry = entry 5 0 1 none

-- An answer's entries of one lever
unfoldable pub of_lever : ℕ → List Entry → List Entry
of_lever lever [] = []
of_lever lever (e ∷ es) = equal e.lever lever (e ∷ of_lever lever es) (of_lever lever es)

abbrev pub entries_for : ℕ → Boundary → List Entry
entries_for lever answer = of_lever lever (entries_of answer)

-- A lever's entries are the one with some boundary
abbrev pub HasBoundary : List Entry → (ℕ → Entry) → Type 0
HasBoundary es entry_at = (b : ℕ) × (es ≡ entry_at b ∷ [])

-- ---- first half: what would win

-- Of whom it speaks: a listed model neither selected nor stopped by a request limit; l is the first listed record with the id
pub record Unselected (costs : Cost) (p : PolicySnapshot) (q : KernelInput) (ls : List Listed) (id : ℕ) (l : Listed) : Type 0 where
  pub listed : first_listed id ls ≡ some l
  pub runs_on : stopped_by p q ≡ 0
  pub not_selected : selects id (decision_by costs p q ls) ≡ false

-- Switched on: enabled is anything but 0
abbrev pub SwitchedOn : KernelModel → Type 0
SwitchedOn m = m.enabled ≡ 0 → ⊥

-- One lever. It has a boundary exactly if some searched setting selects the id, and none exactly if no searched setting does; the id is
-- selected at the boundary and at every more favourable searched setting, at no other
pub record WinLever (es : List Entry) (entry_at : ℕ → Entry) (side : Side) (selected : ℕ → Bool) (searched : Range) : Type 0 where
  pub given : HasBoundary es entry_at ↔ Somewhere selected searched
  pub missing : (es ≡ []) ↔ Nowhere selected searched
  pub exact : (b : ℕ) → es ≡ entry_at b ∷ [] → BoundaryAt side selected searched b

-- The answer: no refusal, its four levers, and no other entry
pub record WinExact (answer : Boundary) (a : Question) : Type 0 where
  pub answered : answer.refusal ≡ no_fault
  pub quality : WinLever (entries_for 1 answer) (quality_entry a) Lowest (wins a 1) (win_quality a.model)
  pub latency : WinLever (entries_for 2 answer) (latency_entry a) Highest (wins a 2) (win_latency a.model)
  pub price : WinLever (entries_for 3 answer) (price_entry a) Highest (wins a 3) win_price
  pub ceiling : WinLever (entries_for 4 answer) (ceiling_entry a) Lowest (wins a 4) (win_ceiling a.model)
  pub whole : entries_of answer ≡ entries_for 1 answer ++ (entries_for 2 answer ++ (entries_for 3 answer ++ entries_for 4 answer))

-- The answer for a model that is off: enabled is listed exactly if switching it on selects the id, and nothing is listed exactly if not
pub record OffExact (answer : Boundary) (a : Question) : Type 0 where
  pub answered : answer.refusal ≡ no_fault
  pub given : (entries_of answer ≡ enabled_entry ∷ []) ↔ (wins a 5 1 ≡ true)
  pub missing : (entries_of answer ≡ []) ↔ (wins a 5 1 ≡ false)

-- ---- second half: the margin

-- Quality. It always has a boundary, the last searched setting that keeps the choice
pub record MarginQuality (es : List Entry) (entry_at : ℕ → Entry) (keeps : ℕ → Bool) (searched : Range) : Type 0 where
  pub given : HasBoundary es entry_at
  pub exact : (b : ℕ) → es ≡ entry_at b ∷ [] → BoundaryAt Lowest keeps searched b

-- Another lever. It has no boundary exactly if every searched setting keeps the choice, and one exactly if some searched setting loses it; the
-- boundary is the last setting that keeps it
pub record MarginLever (es : List Entry) (entry_at : ℕ → Entry) (side : Side) (keeps : ℕ → Bool) (searched : Range) : Type 0 where
  pub missing : (es ≡ []) ↔ Everywhere keeps searched
  pub given : HasBoundary es entry_at ↔ NotEverywhere keeps searched
  pub exact : (b : ℕ) → es ≡ entry_at b ∷ [] → BoundaryAt side keeps searched b

-- The answer: no refusal, its four levers, and no other entry
pub record MarginExact (answer : Boundary) (a : Question) : Type 0 where
  pub answered : answer.refusal ≡ no_fault
  pub quality : MarginQuality (entries_for 1 answer) (quality_entry a) (wins a 1) (margin_quality a.model)
  pub latency : MarginLever (entries_for 2 answer) (latency_entry a) Highest (wins a 2) (margin_latency a.model)
  pub price : MarginLever (entries_for 3 answer) (price_entry a) Highest (wins a 3) margin_price
  pub ceiling : MarginLever (entries_for 4 answer) (ceiling_entry a) Lowest (wins a 4) (margin_ceiling a.model)
  pub whole : entries_of answer ≡ entries_for 1 answer ++ (entries_for 2 answer ++ (entries_for 3 answer ++ entries_for 4 answer))

-- The record that a margin varies is the chosen one: the first listed with the chosen id, at the chosen place; and over it the answer is exact
pub record MarginOfChoice (costs : Cost) (p : PolicySnapshot) (q : KernelInput) (ls : List Listed) (answer : Boundary) : Type 0 where
  pub varied : Listed
  pub first : first_listed (decision_by costs p q ls).model ls ≡ some varied
  pub place : varied.place ≡ (decision_by costs p q ls).place
  pub exact : MarginExact answer (question costs p q ls (decision_by costs p q ls).model varied.model)

-- ---- passes

-- A price's search with the decision for its cost, which is made where a boundary was found: one pass more
abbrev pub cost_passes : declared.Option ℕ → ℕ
cost_passes (Some b) = 1
cost_passes None = 0

abbrev pub passes_with_cost : Bound → ℕ
passes_with_cost found = found.passes + cost_passes found.boundary

-- The published halving over a range, and after the range's far end
abbrev pub halving_in : Side → (ℕ → Bool) → Range → Bound
halving_in side test r = search_of side test r.low r.high

abbrev pub halving_after_far_end : Side → (ℕ → Bool) → Range → Bound
halving_after_far_end side test r = search_after_far_end side test r.low r.high

-- Four levers are searched: the opening decision, and each lever's halving
abbrev pub win_passes : Question → ℕ
win_passes a =
    1
    + (passes_of (halving_in Lowest (wins a 1) (win_quality a.model))
    + (passes_of (halving_in Highest (wins a 2) (win_latency a.model))
    + (passes_with_cost (halving_in Highest (wins a 3) win_price)
    + passes_of (halving_in Lowest (wins a 4) (win_ceiling a.model)))))

abbrev pub margin_passes : Question → ℕ
margin_passes a =
    1
    + (passes_of (halving_in Lowest (wins a 1) (margin_quality a.model))
    + (passes_of (halving_after_far_end Highest (wins a 2) (margin_latency a.model))
    + (passes_with_cost (halving_after_far_end Highest (wins a 3) margin_price)
    + passes_of (halving_after_far_end Lowest (wins a 4) (margin_ceiling a.model)))))

-- What would win, of a listed model: 1 pass where a limit stops the request, 1 where the id is selected already, 2 where the model is off; else
-- four levers are searched
unfoldable pub passes_to_win : Question → ℕ
passes_to_win a =
    equal (stopped_by a.policy a.request) 0
    (cond (selects a.id (decision_by a.costs a.policy a.request a.list)) 1
    (equal a.model.enabled 0 2 (win_passes a)))
    1

-- A refusal carries no count: neither an id that isn't listed nor a bank that is refused has a pass
abbrev pub passes_if_listed : (Question → ℕ) → Cost → PolicySnapshot → KernelInput → List Listed → ℕ → Option Listed → ℕ
passes_if_listed passes costs p q ls id none = 0
passes_if_listed passes costs p q ls id (some l) = passes (question costs p q ls id l.model)

-- The passes that `what_would_win` owes, in every case: over a list; over a bank, however it is read; and with every record of it
unfoldable pub passes_to_win_in : Cost → PolicySnapshot → KernelInput → List Listed → ℕ → ℕ
passes_to_win_in costs p q ls id = passes_if_listed passes_to_win costs p q ls id (first_listed id ls)

abbrev pub passes_to_win_over : PolicySnapshot → KernelInput → Reading → ℕ → ℕ
passes_to_win_over p q b id = unless b.faults (λ f. 0) (passes_to_win_in (cost_under p) p q b.list id)

unfoldable pub passes_to_win_of : PolicySnapshot → KernelInput → List ℕ → ℕ → ℕ
passes_to_win_of p q bank id = passes_to_win_over p q (every_record bank) id

-- And those that `decision_margin` owes: none where the decision is a rejection, which is refused too
unfoldable pub passes_to_keep_in : Cost → PolicySnapshot → KernelInput → List Listed → ℕ
passes_to_keep_in costs p q ls =
    let d = decision_by costs p q ls in
    cond (is_rejection d) 0 (passes_if_listed margin_passes costs p q ls d.model (first_listed d.model ls))

abbrev pub passes_to_keep_over : PolicySnapshot → KernelInput → Reading → ℕ
passes_to_keep_over p q b = unless b.faults (λ f. 0) (passes_to_keep_in (cost_under p) p q b.list)

unfoldable pub passes_to_keep_of : PolicySnapshot → KernelInput → List ℕ → ℕ
passes_to_keep_of p q bank = passes_to_keep_over p q (every_record bank)

-- The most that a search for what would win takes; that a margin takes; and that one takes where quality and ceiling are within 10,000
abbrev pub most_to_win : ℕ
most_to_win = 86

abbrev pub most_for_margin : ℕ
most_for_margin = 103

abbrev pub most_for_margin_within : ℕ
most_for_margin_within = 99

-- Numbers below 256
abbrev pub AreBytes : List ℕ → Type 0
AreBytes s = Each (λ b. b < 256) s

-- A model whose quality and ceiling are at most some number
abbrev pub BpsWithin : ℕ → KernelModel → Type 0
BpsWithin most m = (m.quality_bps ≤ most) × (m.risk_ceiling_bps ≤ most)

-- ---- what validation gives

-- What demand 3 asks of a bank: no fault of its length, unique ids; and for the 99 passes, qualities and ceilings within 10,000
pub record Sound (bank : List ℕ) : Type 0 where
  pub faultless : bank_faults bank ≡ []
  pub unique : UniqueIds (listed_of bank)
  pub within : Each (λ l. BpsWithin 10000 l.model) (listed_of bank)
