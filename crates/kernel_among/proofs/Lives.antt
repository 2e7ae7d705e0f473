-- AS THE SLOTS OF A BANK WERE READ, so many are live, and what is decided over so many is decided over the live ones. Assumes nothing.
use Rattle.rules.proofs.Kit.{ℕ, ◌≡◌, sym, ap, ◌∙◌, List, [], length}
use Rattle.rules.specs.{Records.Listed, Refused.Faults, Refused.refused, Refused.answered, Refused.unless, Numbers.told_number, Slots.live_faults, Slots.live_in}
use Rattle.rules.proofs.Faults.{unless_none}
use Rattle.live_slots.specs.Among.{among_of, Among}
use Rattle.live_slots.proofs.{Among.live-read, Among.live-among, Told.number_passed}
use Rattle.std.specs.Prelude.{Ok}

module _ (bank : List ℕ) (many : ℕ) (told : told_number (Ok many) ≡ unless (live_faults bank) refused (answered (length (live_in bank)))) where
  pub slots_clean : live_faults bank ≡ []
  slots_clean = (number_passed many (live_faults bank) (length (live_in bank)) told).0

  its : many ≡ length (live_in bank)
  its = (number_passed many (live_faults bank) (length (live_in bank)) told).1

  pub slots-among : Among many bank
  slots-among = live-among bank slots_clean many its

  pub slots_read : among_of many bank ≡ live_in bank
  slots_read = live-read bank slots_clean many its

  -- the answer of a call whose tests all pass
  pub slots-answer : {A : Type 0} (tests : Faults) → tests ≡ [] → (over : List Listed → A)
      → answered (over (among_of many bank)) ≡ unless tests refused (answered (over (live_in bank)))
  slots-answer tests none over = ap (λ (ls : List Listed). answered (over ls)) slots_read ∙ sym (unless_none tests refused (answered (over (live_in bank))) none)
