-- `kernel_utility::utility_in` meets its contract: a stopped request is refused, and so is an id that no record has. Assumes nothing.
use Rattle.rules.proofs.Kit.{ℕ, ◌≡◌, sym, ap, ◌∙◌, true, false, List}
use Rattle.std.specs.Prelude.{Option, Some, None}
use Rattle.std.specs.Option.{is_some}
use Rattle.rules.specs.{Refused.refused, Refused.fault, Records.Listed, Listing.first_listed, Decide.stopped_by, Decide.if_listed, Decide.utility_in}
use Rattle.rules.specs.{declared.records.KernelInput.KernelInput, declared.records.PolicySnapshot.PolicySnapshot, declared.decision.KernelReason.KernelReason}
use Rattle.kernel_stop.specs.Stop.{told_stop}
use Rattle.kernel_stop.proofs.Stops.{open-utility, stopped-utility}
use Rattle.call_checks.proofs.Finding.{found_at, found_nothing}
use Rattle.kernel_utility.proofs.utility_in.Goals as goal

module _ (p : PolicySnapshot) (q : KernelInput) (id : ℕ) (ls : List Listed) where
  stopped : (o : Option KernelReason) → true ≡ is_some o → told_stop o ≡ stopped_by p q → refused (fault 7) ≡ utility_in p q id ls
  stopped (Some r) e told = sym (stopped-utility p q r told id ls)
  stopped None e told = cc

  unstopped : (o : Option KernelReason) → false ≡ is_some o → told_stop o ≡ stopped_by p q → if_listed p q (first_listed id ls) ≡ utility_in p q id ls
  unstopped (Some r) e told = cc
  unstopped None e told = sym (open-utility p q told id ls)

pub returns-then-is_some : goal.returns-then-is_some
returns-then-is_some c = stopped _ _ _ _ _ c.if-is_some.ensures c.stopped_by.ensures

pub returns-in_default : goal.returns-in_default
returns-in_default c =
    ap (if_listed _ _) (sym (found_nothing _ _ (sym c.in_default.ensures))) ∙ unstopped _ _ _ _ _ c.if-is_some.ensures c.stopped_by.ensures

pub utility_at-requires : goal.utility_at-requires
utility_at-requires c = ((found_at _ _ _ (sym c.in-Some.ensures)).1, c.requires)

pub returns : goal.returns
returns c =
    c.utility_at.ensures
    ∙ ap (if_listed _ _) (sym (found_at _ _ _ (sym c.in-Some.ensures)).0)
    ∙ unstopped _ _ _ _ _ c.if-is_some.ensures c.stopped_by.ensures
