-- `catalogue_records::repeat_outcome` meets its contract: rising ids are not repeated. Assumes nothing.
use Rattle.rules.proofs.Kit.{arith, sym, ◌∙◌}
use Rattle.catalogue_records.proofs.{Rising.rising-unrepeated}
use Rattle.rules.specs.Refused.{first_fault, told_outcome}
use Rattle.catalogue_records.proofs.ids.repeat_outcome.Goals as goal

pub returns-then-rising : goal.returns-then-rising
unfolding first_fault told_outcome
returns-then-rising c =
    rw (rising-unrepeated _ c.args.place (omega arith) (sym c.if-rising.true ∙ c.requires.known))
