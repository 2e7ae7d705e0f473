-- `live_slots::first_live` meets its contract. Assumes nothing.
use Rattle.rules.proofs.Kit.{sym, ap, ◌∙◌}
use Rattle.rules.specs.{Records.listed_of, Listing.place_of}
use Rattle.rules.proofs.Slots.{first_live, none_zero}
use Rattle.live_slots.proofs.slots.first_live.Goals as goal

pub returns-then-id-eq0 : goal.returns-then-id-eq0
returns-then-id-eq0 c = rw (c.if-id-eq0.true, none_zero (listed_of c.args.bank.now))

pub returns : goal.returns
returns c = c.first_listed.ensures ∙ ap place_of (sym (first_live c.args.id c.if-id-eq0.false (listed_of c.args.bank.now)))
