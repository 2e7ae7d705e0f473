-- What would win, case by case. Assumes nothing.
use Rattle.rules.proofs.Kit.{ℕ, arith, ◌≡◌, refl, sym, ap, ap₂, ◌∙◌, Bool, true, false, List, Option, none, some, Option·none-ne-some, eq-eqb, ne_eqb}
use Rattle.rules.specs.{Choice.below, Records.Listed, Records.listed_of, Records.model_at, Refused.fault, Numbers.Decision, Numbers.Entry}
use Rattle.rules.specs.{Listing.first_listed, Listing.place_of}
use Rattle.rules.specs.{Decide.stopped_by, Decide.decision_of, Levers.Question, Levers.wins, Levers.selects, Levers.entry, Levers.no_search, Levers.boundary_of}
use Rattle.rules.specs.{Levers.boundary_refused, Win.win_levers, Win.if_on, Win.win_search, Win.win_for, Win.win_by, Win.win_in, Price.cost_under, Win.win_if_listed}
use Rattle.rules.specs.{declared.records.KernelInput.KernelInput, declared.records.PolicySnapshot.PolicySnapshot, declared.decision.KernelReason.KernelReason}
use Rattle.kernel_ranking.specs.declared.state.Top.{Top}
use Rattle.kernel_stop.specs.{Stop.told_stop}
use Rattle.std.specs.Prelude as declared
use Rattle.std.specs.Prelude.{Some, None, is_some}
use Rattle.live_slots.specs.Among.{among_of, Among}
use Rattle.live_slots.proofs.Among.{first_read}
use Rattle.call_checks.proofs.Finding.{found_at}
use Rattle.kernel_stop.proofs.Stops.{open_free, by_high}
use Rattle.counterfactual_pass.specs.{Asked.asked_from, Asked.question_in, declared.pass.Asked.Asked}
use Rattle.counterfactual_pass.proofs.{LiveQuestions.asking, AmongQuestions.found-other, AmongQuestions.win-read}
use Rattle.counterfactual_answer.specs.Levers.{LeverRooms, empty_room, pushed, room_of}

-- ---- what is searched

module _ (a : Question) where
  pub search-on : (a.model.enabled ≡ 0 → ⊥) → win_search a ≡ win_levers a
  unfolding win_search
  search-on h = rw (ne_eqb a.model.enabled 0 h)

  pub search-off : (b : Bool) → a.model.enabled ≡ 0 → wins a 5 1 ≡ b → win_search a ≡ if_on b
  unfolding win_search
  search-off b h e = rw (eq-eqb a.model.enabled 0 h, e)

-- switched on, it wins: the one lever, at the second pass; or it doesn't
pub off_found : {t u : LeverRooms} {e : Entry} → t ≡ empty_room 2 → e ≡ entry 5 0 1 none → u ≡ pushed t e → u ≡ room_of (if_on true)
unfolding room_of pushed below
off_found p q r = r ∙ ap₂ pushed p q

pub off_lost : {t : LeverRooms} → t ≡ empty_room 2 → t ≡ room_of (if_on false)
unfolding room_of
off_lost p = p

-- ---- the request's limits

-- no search, no lever: the opening decision's one pass
pub empty_room_lem : empty_room 1 ≡ room_of no_search
unfolding room_of
empty_room_lem = refl

-- a request that isn't stopped is free
pub free_by : (p : PolicySnapshot) (q : KernelInput) (o : declared.Option KernelReason) → false ≡ is_some o → told_stop o ≡ stopped_by p q → stopped_by p q ≡ 0
free_by p q None e told = open_free p q told
free_by p q (Some r) e told = cc

module _ (a : Question) (d : Decision) where
  pub win-stopped : (o : declared.Option KernelReason) → true ≡ is_some o → told_stop o ≡ stopped_by a.policy a.request
      → win_for a d ≡ boundary_of a.id d true no_search
  unfolding win_for
  win-stopped (Some r) e told =
      let h = by_high a.policy a.request r told in
      rw (ne_eqb (stopped_by a.policy a.request) 0 (λ z. omega arith))
  win-stopped None e told = cc

  pub win-selected : stopped_by a.policy a.request ≡ 0 → selects a.id d ≡ true → win_for a d ≡ boundary_of a.id d false no_search
  unfolding win_for
  win-selected e w = rw (eq-eqb (stopped_by a.policy a.request) 0 e, w)

  pub win-sought : stopped_by a.policy a.request ≡ 0 → selects a.id d ≡ false → win_for a d ≡ boundary_of a.id d false (win_search a)
  unfolding win_for
  win-sought e w = rw (eq-eqb (stopped_by a.policy a.request) 0 e, w)

-- ---- the id is listed, or not

pub win_nowhere : (p : PolicySnapshot) (q : KernelInput) (ls : List Listed) (id : ℕ) → place_of (first_listed id ls) ≡ none
    → win_in p q ls id ≡ boundary_refused (fault 5)
unfolding win_by
win_nowhere p q ls id e = go (first_listed id ls) e
  where
    go : (o : Option Listed) → place_of o ≡ none → win_if_listed (cost_under p) p q ls id o ≡ boundary_refused (fault 5)
    go none e = refl
    go (some l) e = absurd (Option·none-ne-some l.place (sym e))

module _ (many : ℕ) (bank : List ℕ) (id place : ℕ) (seen : Among many bank) (found : place_of (first_listed id (among_of many bank)) ≡ some place) where
  same_first : first_listed id (among_of many bank) ≡ first_listed id (listed_of bank)
  same_first = first_read many bank seen id (found-other many bank seen id place found)

  -- THE FIRST AMONG SO MANY IS THE FIRST OF ALL
  pub first-of-all : place_of (first_listed id (listed_of bank)) ≡ some place
  first-of-all = ap place_of (sym same_first) ∙ found

  module _ (p : PolicySnapshot) (q : KernelInput) where
    -- the question about it
    abbrev pub ask : Question
    ask = asking (cost_under p) p q id (model_at bank place) (among_of many bank)

    pub win-listed : win_in p q (among_of many bank) id ≡ win_for ask (decision_of p q (among_of many bank))
    unfolding win_by
    win-listed = ap (win_if_listed (cost_under p) p q (among_of many bank) id) (same_first ∙ (found_at bank id place first-of-all).0)

    -- AND WHAT IS SOUGHT OVER EVERY RECORD is what is sought there
    pub sought-at : {k : Asked} {t : LeverRooms} (top : Top) → k ≡ asked_from p q bank id place top
        → t ≡ room_of (win_search (question_in k bank)) → t ≡ room_of (win_search ask)
    unfolding question_in
    sought-at top e f =
        f ∙ ap (λ (k : Asked). room_of (win_search (question_in k bank))) e
        ∙ ap room_of (sym (win-read many bank seen p q id place (found-other many bank seen id place found) first-of-all))
