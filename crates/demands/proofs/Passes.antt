-- DEMAND 3: how many passes the calls take. The number is the published halving's own, in every case; and it is bounded, over any list, also with
-- repeated ids, and by any rule of cost. Assumed for the bounds: latency, quality and ceiling of the model that is varied within their fields, as
-- those of a bank of bytes are.
use Rattle.rules.proofs.Kit.{ℕ, ◌+◌, ◌-◌, ◌*◌, ◌^◌, ◌≤◌, ◌<◌, ◌≡◌, refl, ap, ◌∙◌, Bool, true, false, cond, List, [], ◌∷◌, Option, none, some, arith, ne_eqb}
use Rattle.rules.proofs.Kit.{eqb, length}
use Rattle.std.specs.Prelude.{Some, None}
use Rattle.std.specs.Prelude as declared
use Rattle.rules.specs.{Choice.pick, Choice.equal, Order.Each, Records.Listed, Records.listed_of, Refused.Faults, Refused.bank_faults, Refused.fault}
use Rattle.rules.specs.{Refused.unless, Numbers.Decision, Numbers.Boundary, Numbers.is_rejection, Price.Cost, Price.cost_under, Decide.stopped_by}
use Rattle.rules.specs.{Decide.decision_by, Decide.decision_of, Listing.Reading, Listing.every_record, Listing.first_listed, Halving.Lowest, Halving.Highest}
use Rattle.rules.specs.{Halving.passes_of, Levers.Question, Levers.selects, Levers.wins, Levers.Sought, Levers.at_boundary, Levers.priced, Levers.no_search}
use Rattle.rules.specs.{Levers.boundary_of, Levers.boundary_refused, Win.if_on, Win.win_levers, Win.win_search, Win.win_for, Win.win_if_listed, Win.win_by, Win.win_in, Win.what_would_win_over}
use Rattle.rules.specs.{Win.what_would_win_of, Margin.margin_levers, Margin.margin_if_listed, Margin.margin_for, Margin.margin_by, Margin.margin_in}
use Rattle.rules.specs.{Margin.decision_margin_over, Margin.decision_margin_of, declared.boundary.Bound.Bound}
use Rattle.rules.specs.{declared.records.KernelInput.KernelInput, declared.records.PolicySnapshot.PolicySnapshot}
use Rattle.rules.proofs.Halvings.{plain_passes}
use Rattle.demands.specs.Demand3.{win_price, margin_price, price_entry, question, Unselected, SwitchedOn, cost_passes, passes_with_cost, halving_in, halving_after_far_end}
use Rattle.demands.specs.Demand3.{win_passes, margin_passes, passes_to_win, passes_if_listed, passes_to_win_in, passes_to_win_over, passes_to_win_of, passes_to_keep_in}
use Rattle.demands.specs.Demand3.{passes_to_keep_over, passes_to_keep_of, most_to_win, most_for_margin, most_for_margin_within, AreBytes, BpsWithin}
use Rattle.demands.proofs.{Exact.search-short, Exact.margin-short, Widest.Narrow, Widest.bytes_narrow, Widest.first_of}

-- ---- the passes of four levers are those of their searches

priced_passes : (a : Question) (r : Bound) → (priced a r).passes ≡ passes_with_cost r
priced_passes a r = go r.boundary
  where
    go : (o : declared.Option ℕ) → r.passes + length (at_boundary (price_entry a) (record { boundary = o; passes = r.passes })) ≡ r.passes + cost_passes o
    go (Some b) = refl
    go None = refl

win_levers_passes : (a : Question) → 1 + (win_levers a).passes ≡ win_passes a
unfolding win_levers
win_levers_passes a = simp (plain_passes, priced_passes)

margin_levers_passes : (a : Question) → 1 + (margin_levers a).passes ≡ margin_passes a
unfolding margin_levers
margin_levers_passes a = simp (plain_passes, priced_passes)

-- ---- and the calls count as many

for_passes : (a : Question) → (win_for a (decision_by a.costs a.policy a.request a.list)).passes ≡ passes_to_win a
unfolding win_for win_search boundary_of passes_to_win equal
for_passes a = go (eqb (stopped_by a.policy a.request) 0) (selects a.id d) (eqb a.model.enabled 0) (wins a 5 1)
  where
    d : Decision
    d = decision_by a.costs a.policy a.request a.list

    sought : (off wins : Bool) → Sought
    sought off wins = pick off (λ _. if_on wins) (λ _. win_levers a)

    go : (runs_on selected off wins : Bool)
        → (pick runs_on
        (λ _. pick selected (λ _. boundary_of a.id d false no_search) (λ _. boundary_of a.id d false (sought off wins)))
        (λ _. boundary_of a.id d true no_search)).passes
        ≡ cond runs_on (cond selected 1 (cond off 2 (win_passes a))) 1
    go false selected off wins = refl
    go true true off wins = refl
    go true false true true = refl
    go true false true false = refl
    go true false false wins = win_levers_passes a

unless_passes : (fs : Faults) (b : Boundary) → (unless fs boundary_refused b).passes ≡ unless fs (λ f. 0) b.passes
unless_passes [] b = refl
unless_passes (f ∷ fs) b = refl

module _ (costs : Cost) (p : PolicySnapshot) (q : KernelInput) (ls : List Listed) where
  -- Demand 3. THE PASSES OF WHAT WOULD WIN ARE THOSE OWED, over any list
  pub win-passes : (id : ℕ) → (win_by costs p q ls id).passes ≡ passes_to_win_in costs p q ls id
  unfolding win_by passes_to_win_in
  win-passes id = go (first_listed id ls)
    where
      go : (o : Option Listed) → (win_if_listed costs p q ls id o).passes ≡ passes_if_listed passes_to_win costs p q ls id o
      go none = refl
      go (some l) = for_passes (question costs p q ls id l.model)

  -- Demand 3. AND SO ARE THOSE OF A MARGIN
  pub keep-passes : (margin_by costs p q ls).passes ≡ passes_to_keep_in costs p q ls
  unfolding margin_by margin_for boundary_of passes_to_keep_in
  keep-passes = go (is_rejection d) (first_listed d.model ls)
    where
      d : Decision
      d = decision_by costs p q ls

      go : (rejects : Bool) (o : Option Listed)
          → (pick rejects (λ _. boundary_refused (fault 6)) (λ _. margin_if_listed costs p q ls d o)).passes
          ≡ cond rejects 0 (passes_if_listed margin_passes costs p q ls d.model o)
      go true o = refl
      go false none = refl
      go false (some l) = margin_levers_passes (question costs p q ls d.model l.model)

module _ (p : PolicySnapshot) (q : KernelInput) (b : Reading) where
  -- Demand 3. THE PASSES OF THE CALL `what_would_win` ARE THOSE OWED, however a bank is read and whatever is asked: refused or not, stopped, selected,
  -- off, or searched
  pub win-over-passes : (id : ℕ) → (what_would_win_over p q b id).passes ≡ passes_to_win_over p q b id
  win-over-passes id =
      unless_passes b.faults (win_in p q b.list id) ∙ ap (unless b.faults (λ f. 0)) (win-passes (cost_under p) p q b.list id)

  -- Demand 3. THE PASSES OF THE CALL `decision_margin` ARE THOSE OWED
  pub margin-over-passes : (decision_margin_over p q b).passes ≡ passes_to_keep_over p q b
  margin-over-passes = unless_passes b.faults (margin_in p q b.list) ∙ ap (unless b.faults (λ f. 0)) (keep-passes (cost_under p) p q b.list)

  -- so where four levers are searched they are the halvings' own
  pub searched-over-passes : (id : ℕ) (l : Listed) → b.faults ≡ [] → Unselected (cost_under p) p q b.list id l → SwitchedOn l.model
      → (what_would_win_over p q b id).passes ≡ win_passes (question (cost_under p) p q b.list id l.model)
  unfolding passes_to_win_in passes_to_win equal
  searched-over-passes id l whole u on = win-over-passes id ∙ rw (whole, u.listed, u.runs_on, u.not_selected, ne_eqb l.model.enabled 0 on)

  pub kept-over-passes : (l : Listed) → b.faults ≡ [] → is_rejection (decision_of p q b.list) ≡ false
      → first_listed (decision_of p q b.list).model b.list ≡ some l
      → (decision_margin_over p q b).passes ≡ margin_passes (question (cost_under p) p q b.list (decision_of p q b.list).model l.model)
  unfolding passes_to_keep_in
  kept-over-passes l whole chose first = margin-over-passes ∙ rw (whole, chose, first)

-- and with every record of a bank
module _ (p : PolicySnapshot) (q : KernelInput) (bank : List ℕ) where
  pub what-would-win-passes : (id : ℕ) → (what_would_win_of p q bank id).passes ≡ passes_to_win_of p q bank id
  unfolding what_would_win_of passes_to_win_of
  what-would-win-passes = win-over-passes p q (every_record bank)

  pub decision-margin-passes : (decision_margin_of p q bank).passes ≡ passes_to_keep_of p q bank
  unfolding decision_margin_of passes_to_keep_of
  decision-margin-passes = margin-over-passes p q (every_record bank)

  pub searched-passes : (id : ℕ) (l : Listed) → bank_faults bank ≡ [] → Unselected (cost_under p) p q (listed_of bank) id l → SwitchedOn l.model
      → (what_would_win_of p q bank id).passes ≡ win_passes (question (cost_under p) p q (listed_of bank) id l.model)
  unfolding what_would_win_of
  searched-passes = searched-over-passes p q (every_record bank)

  pub kept-passes : (l : Listed) → bank_faults bank ≡ [] → is_rejection (decision_of p q (listed_of bank)) ≡ false
      → first_listed (decision_of p q (listed_of bank)).model (listed_of bank) ≡ some l
      → (decision_margin_of p q bank).passes ≡ margin_passes (question (cost_under p) p q (listed_of bank) (decision_of p q (listed_of bank)).model l.model)
  unfolding decision_margin_of
  kept-passes = kept-over-passes p q (every_record bank)

-- ---- how many these are

with_cost : (r : Bound) → passes_with_cost r ≤ passes_of r + 1
with_cost r = omega (arith, go r.boundary)
  where
    go : (o : declared.Option ℕ) → cost_passes o ≤ 1
    go (Some b) = omega arith
    go None = omega arith

-- quality and ceiling in 14 bits, latency in 32, price scale in 20
win_passes_few : (a : Question) → a.model.p95_latency_ms ≤ 2 ^ 32 - 1 → win_passes a ≤ most_to_win
win_passes_few a h =
    let m = a.model in
    let q = search-short Lowest (wins a 1) 14 m.quality_bps 10000 (omega arith) in
    let l = search-short Highest (wins a 2) 32 0 m.p95_latency_ms (omega arith) in
    let p = search-short Highest (wins a 3) 20 0 1000000 (omega arith) in
    let c = search-short Lowest (wins a 4) 14 m.risk_ceiling_bps 10000 (omega arith) in
    omega (arith, with_cost (halving_in Highest (wins a 3) win_price))

-- quality and ceiling in k bits, latency in 32, price scale in 30
margin_passes_few : (k : ℕ) (a : Question) → a.model.quality_bps < 2 ^ k → a.model.risk_ceiling_bps < 2 ^ k → margin_passes a ≤ 71 + 2 * k
margin_passes_few k a h i =
    let m = a.model in
    let q = search-short Lowest (wins a 1) k 0 m.quality_bps (omega arith) in
    let l = margin-short Highest (wins a 2) 32 m.p95_latency_ms (2 ^ 32 - 1) (omega arith) in
    let p = margin-short Highest (wins a 3) 30 1000000 1000000000 (omega arith) in
    let c = margin-short Lowest (wins a 4) k 0 m.risk_ceiling_bps (omega arith) in
    omega (arith, with_cost (halving_after_far_end Highest (wins a 3) margin_price))

-- whether or not four levers are searched
either_few : {a b n : ℕ} (t : Bool) → a ≤ n → b ≤ n → cond t a b ≤ n
either_few true h k = h
either_few false h k = k

to_win_few : (a : Question) → a.model.p95_latency_ms ≤ 2 ^ 32 - 1 → passes_to_win a ≤ most_to_win
unfolding passes_to_win equal
to_win_few a h =
    either_few {b = 1} (eqb (stopped_by a.policy a.request) 0)
    (either_few {a = 1} (selects a.id (decision_by a.costs a.policy a.request a.list)) (omega arith)
    (either_few {a = 2} (eqb a.model.enabled 0) (omega arith) (win_passes_few a h)))
    (omega arith)

-- a bank that is refused is answered with no pass
unless_few : (n : ℕ) (fs : Faults) (b : Boundary) → b.passes ≤ n → (unless fs boundary_refused b).passes ≤ n
unless_few n [] b h = h
unless_few n (f ∷ fs) b h = omega arith

module _ (costs : Cost) (p : PolicySnapshot) (q : KernelInput) (ls : List Listed) where
  listed-few : (n : ℕ) (passes : Question → ℕ) (id : ℕ) (o : Option Listed)
      → ((l : Listed) → o ≡ some l → passes (question costs p q ls id l.model) ≤ n)
      → passes_if_listed passes costs p q ls id o ≤ n
  listed-few n passes id none h = omega arith
  listed-few n passes id (some l) h = h l refl

  kept-few : (k : ℕ)
      → ((l : Listed) → first_listed (decision_by costs p q ls).model ls ≡ some l → (l.model.quality_bps < 2 ^ k) × (l.model.risk_ceiling_bps < 2 ^ k))
      → (margin_by costs p q ls).passes ≤ 71 + 2 * k
  unfolding passes_to_keep_in
  kept-few k h =
      rw (keep-passes costs p q ls)
      (either_few {a = 0} (is_rejection (decision_by costs p q ls)) (omega arith)
      (listed-few (71 + 2 * k) margin_passes (decision_by costs p q ls).model (first_listed (decision_by costs p q ls).model ls)
      (λ l e. margin_passes_few k (question costs p q ls _ l.model) (h l e).0 (h l e).1)))

  -- Demand 3. WHAT WOULD WIN TAKES AT MOST 86 PASSES, over any list: the model asked about needs only a latency of 32 bits
  pub win-few : (id : ℕ) → ((l : Listed) → first_listed id ls ≡ some l → l.model.p95_latency_ms ≤ 2 ^ 32 - 1) → (win_by costs p q ls id).passes ≤ most_to_win
  unfolding passes_to_win_in
  win-few id h =
      rw (win-passes costs p q ls id)
      (listed-few most_to_win passes_to_win id (first_listed id ls) (λ l e. to_win_few (question costs p q ls id l.model) (h l e)))

  -- Demand 3. A MARGIN TAKES AT MOST 103 PASSES, over any list: the model that is varied needs only a quality and a ceiling of 16 bits
  pub margin-few : ((l : Listed) → first_listed (decision_by costs p q ls).model ls ≡ some l → BpsWithin 65535 l.model)
      → (margin_by costs p q ls).passes ≤ most_for_margin
  margin-few h = kept-few 16 (λ l e. let w = h l e in ((omega arith), (omega arith)))

  -- Demand 3. And at most 99 where these are within 10,000
  pub margin-few-within : ((l : Listed) → first_listed (decision_by costs p q ls).model ls ≡ some l → BpsWithin 10000 l.model)
      → (margin_by costs p q ls).passes ≤ most_for_margin_within
  margin-few-within h = kept-few 14 (λ l e. let w = h l e in ((omega arith), (omega arith)))

module _ (p : PolicySnapshot) (q : KernelInput) (b : Reading) where
  -- Demand 3. AT MOST 86 PASSES, however a bank is read, where its models are narrow: refused or not, stopped or not, with repeated ids or not
  pub win-over-few : (id : ℕ) → Each (λ l. Narrow l.model) b.list → (what_would_win_over p q b id).passes ≤ most_to_win
  win-over-few id h =
      unless_few most_to_win b.faults (win_in p q b.list id)
      (win-few (cost_under p) p q b.list id (λ l e. (first_of _ id b.list l h e).latency))

  -- Demand 3. AT MOST 103 PASSES
  pub margin-over-few : Each (λ l. Narrow l.model) b.list → (decision_margin_over p q b).passes ≤ most_for_margin
  margin-over-few h =
      unless_few most_for_margin b.faults (margin_in p q b.list)
      (margin-few (cost_under p) p q b.list (λ l e. (first_of _ _ b.list l h e).within))

  -- Demand 3. AT MOST 99 PASSES, where qualities and ceilings are within 10,000, as validation asks
  pub margin-over-few-within : Each (λ l. BpsWithin 10000 l.model) b.list → (decision_margin_over p q b).passes ≤ most_for_margin_within
  margin-over-few-within h =
      unless_few most_for_margin_within b.faults (margin_in p q b.list)
      (margin-few-within (cost_under p) p q b.list (λ l e. first_of _ _ b.list l h e))

-- Demand 3. So it is of any bank of bytes, with every record of it
module _ (p : PolicySnapshot) (q : KernelInput) (bank : List ℕ) where
  pub what-would-win-few : (id : ℕ) → AreBytes bank → (what_would_win_of p q bank id).passes ≤ most_to_win
  unfolding what_would_win_of
  what-would-win-few id h = win-over-few p q (every_record bank) id (bytes_narrow bank h)

  pub decision-margin-few : AreBytes bank → (decision_margin_of p q bank).passes ≤ most_for_margin
  unfolding decision_margin_of
  decision-margin-few h = margin-over-few p q (every_record bank) (bytes_narrow bank h)

  pub decision-margin-few-within : Each (λ l. BpsWithin 10000 l.model) (listed_of bank) → (decision_margin_of p q bank).passes ≤ most_for_margin_within
  unfolding decision_margin_of
  decision-margin-few-within = margin-over-few-within p q (every_record bank)
