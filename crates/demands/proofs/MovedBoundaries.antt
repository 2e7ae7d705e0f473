-- Both boundaries follow any strictly rising renaming of places, and another catalogue epoch: the same settings win, so the same levers are found
-- with as many passes, by any rule of cost; the decision alone moves. Assumes nothing.
use Rattle.rules.proofs.Kit.{ℕ, ◌≡◌, refl, ap, ◌∙◌, Bool, true, false, List, [], ◌∷◌, map, Option, none, some, eqb}
use Rattle.rules.specs.{Choice.pick, Records.Listed, Refused.fault, Refused.Fault, Refused.Faults, Refused.unless, Numbers.Decision, Numbers.Boundary}
use Rattle.rules.specs.{Numbers.is_rejection, Price.Cost, Price.cost_under, Decide.stopped_by, Decide.decision_by, Listing.Reading, Listing.first_listed}
use Rattle.rules.specs.{Levers.Question, Levers.selects, Levers.lever_at, Levers.decision_at, Levers.wins, Levers.Sought, Levers.entry, Levers.no_search}
use Rattle.rules.specs.{Levers.boundary_of, Levers.boundary_refused, Win.win_levers, Win.win_search, Win.win_for, Win.win_if_listed, Win.win_by, Win.what_would_win_over}
use Rattle.rules.specs.{Margin.margin_levers, Margin.margin_if_listed, Margin.margin_for, Margin.margin_by, Margin.decision_margin_over}
use Rattle.rules.specs.{declared.records.KernelInput.KernelInput, declared.records.PolicySnapshot.PolicySnapshot}
use Rattle.demands.specs.{Renamed.Rises, Renamed.renamed, Renamed.renamed_reading, Renamed.policy_at, Renamed.moved_decision, Renamed.moved_question}
use Rattle.demands.specs.{Renamed.moved_beside, Renamed.moved_boundary, Renamed.OnlyPlaceAndEpoch, Renamed.OnlyInDecision, Demand3.question, Demand3.price_entry}
use Rattle.demands.proofs.{Renaming.same-stopped, Renaming.decision-moved, Renaming.only_moved, MovedAnswers.first-renamed, MovedAnswers.varied-renamed}

module _ (f : ℕ → ℕ) (rises : Rises f) (epoch : ℕ) where
  -- ---- the same settings win, at the same cost

  module _ (a : Question) where
    at_moved : (lever v : ℕ) → decision_at (moved_question f epoch a) lever v ≡ moved_decision f epoch (decision_at a lever v)
    unfolding decision_at
    at_moved lever v =
        ap (decision_by a.costs (policy_at epoch a.policy) a.request) (varied-renamed f a.id (lever_at lever v a.model) a.list)
        ∙ decision-moved f epoch a.policy a.request rises a.costs _

    win-moved : (lever v : ℕ) → wins (moved_question f epoch a) lever v ≡ wins a lever v
    unfolding wins selects
    win-moved lever v = rw (at_moved lever v)

    -- W2. EVERY SETTING OF EVERY LEVER selects the id where it did
    pub wins-moved : (lever : ℕ) → wins (moved_question f epoch a) lever ≡ wins a lever
    wins-moved lever = λ i v. win-moved lever v i

    price-moved : price_entry (moved_question f epoch a) ≡ price_entry a
    price-moved = λ i v. entry 3 1000000 v (some (at_moved 3 v i).cost)

    win-levers : win_levers (moved_question f epoch a) ≡ win_levers a
    unfolding win_levers
    win-levers = rw (wins-moved 1, wins-moved 2, price-moved, wins-moved 3, wins-moved 4)

    win-search : win_search (moved_question f epoch a) ≡ win_search a
    unfolding win_search
    win-search = rw (wins-moved 5, win-levers)

    margin-levers : margin_levers (moved_question f epoch a) ≡ margin_levers a
    unfolding margin_levers
    margin-levers = rw (wins-moved 1, wins-moved 2, price-moved, wins-moved 3, wins-moved 4)

    -- ---- so the answer's decision moves, and nothing else

    boundary-moved : (d : Decision) (blocked : Bool) (s : Sought)
        → boundary_of a.id (moved_decision f epoch d) blocked s ≡ moved_boundary f epoch (boundary_of a.id d blocked s)
    unfolding boundary_of
    boundary-moved d blocked s = refl

    win-for : (d : Decision) → win_for (moved_question f epoch a) (moved_decision f epoch d) ≡ moved_boundary f epoch (win_for a d)
    unfolding win_for selects
    win-for d = rw (same-stopped epoch a.policy a.request, win-search) (go (eqb (stopped_by a.policy a.request) 0) (selects a.id d))
      where
        d' : Decision
        d' = moved_decision f epoch d

        go : (runs_on selected : Bool)
            → pick runs_on (λ _. pick selected (λ _. boundary_of a.id d' false no_search) (λ _. boundary_of a.id d' false (win_search a)))
            (λ _. boundary_of a.id d' true no_search)
            ≡ moved_boundary f epoch
            (pick runs_on (λ _. pick selected (λ _. boundary_of a.id d false no_search) (λ _. boundary_of a.id d false (win_search a)))
            (λ _. boundary_of a.id d true no_search))
        go true true = boundary-moved d false no_search
        go true false = boundary-moved d false (win_search a)
        go false selected = boundary-moved d true no_search

  module _ (costs : Cost) (p : PolicySnapshot) (q : KernelInput) (ls : List Listed) where
    -- Demand 3. WHAT WOULD WIN IS THE SAME but for its decision's place and epoch
    pub win-moves : (id : ℕ) → win_by costs (policy_at epoch p) q (map (renamed f) ls) id ≡ moved_boundary f epoch (win_by costs p q ls id)
    unfolding win_by
    win-moves id = rw (first-renamed f id ls) (go (first_listed id ls))
      where
        go : (o : Option Listed) → win_if_listed costs (policy_at epoch p) q (map (renamed f) ls) id (mathlib.Core.Option.map (renamed f) o)
            ≡ moved_boundary f epoch (win_if_listed costs p q ls id o)
        go none = refl
        go (some l) = rw (decision-moved f epoch p q rises costs ls) (win-for (question costs p q ls id l.model) (decision_by costs p q ls))

    -- Demand 3. AND SO IS THE MARGIN
    pub margin-moves : margin_by costs (policy_at epoch p) q (map (renamed f) ls) ≡ moved_boundary f epoch (margin_by costs p q ls)
    unfolding margin_by margin_for
    margin-moves =
        rw (decision-moved f epoch p q rises costs ls, first-renamed f (decision_by costs p q ls).model ls)
        (go (is_rejection (decision_by costs p q ls)) (first_listed (decision_by costs p q ls).model ls))
      where
        d : Decision
        d = decision_by costs p q ls

        go : (rejects : Bool) (o : Option Listed)
            → pick rejects (λ _. boundary_refused (fault 6))
            (λ _. margin_if_listed costs (policy_at epoch p) q (map (renamed f) ls) (moved_decision f epoch d) (mathlib.Core.Option.map (renamed f) o))
            ≡ moved_boundary f epoch (pick rejects (λ _. boundary_refused (fault 6)) (λ _. margin_if_listed costs p q ls d o))
        go true o = refl
        go false none = refl
        go false (some l) =
            let a = question costs p q ls d.model l.model in
            ap (boundary_of d.model (moved_decision f epoch d) false) (margin-levers a) ∙ boundary-moved a d false (margin_levers a)

-- ---- over a bank, however it is read

unless-moved : (f : ℕ → ℕ) (epoch : ℕ) (fs : Faults) (b c : Boundary) → b ≡ moved_boundary f epoch c
    → unless fs boundary_refused b ≡ moved_boundary f epoch (unless fs boundary_refused c)
unless-moved f epoch [] b c e = e
unless-moved f epoch (x ∷ xs) b c e = refl

module _ (f : ℕ → ℕ) (rises : Rises f) (epoch : ℕ) (p : PolicySnapshot) (q : KernelInput) (b : Reading) where
  pub win-over-moves : (id : ℕ) → what_would_win_over (policy_at epoch p) q (renamed_reading f b) id ≡ moved_boundary f epoch (what_would_win_over p q b id)
  win-over-moves id = unless-moved f epoch b.faults _ _ (win-moves f rises epoch (cost_under p) p q b.list id)

  pub margin-over-moves : decision_margin_over (policy_at epoch p) q (renamed_reading f b) ≡ moved_boundary f epoch (decision_margin_over p q b)
  margin-over-moves = unless-moved f epoch b.faults _ _ (margin-moves f rises epoch (cost_under p) p q b.list)

-- A moved answer differs in its decision's place and epoch alone
pub only_in_decision : (f : ℕ → ℕ) (epoch : ℕ) (b : Boundary) → OnlyInDecision (moved_boundary f epoch b) b
only_in_decision f epoch b =
    record {
      refusal = refl;
      model = refl;
      decision = go b.refusal;
      blocked = refl;
      levers = refl;
      count = refl;
      passes = refl;
    }
  where
    go : (o : Option Fault) → OnlyPlaceAndEpoch (moved_beside o f epoch b.decision) b.decision
    go none = only_moved f epoch b.decision
    go (some n) =
        record {
          sequence = refl;
          action = refl;
          reason = refl;
          model = refl;
          cost = refl;
          utility = refl;
          counterfactual = refl;
          counterfactual_utility = refl;
          evaluated = refl;
          eligible = refl;
          policy_epoch = refl;
        }
