-- `program_words::put_requested` meets its contract. Assumes nothing.
use Rattle.rules.proofs.Kit.{arith, sym}
use Rattle.rules.specs.Text.{text}
use Rattle.splice.proofs.Pieces.{written, written_none, promised_as}
use Rattle.program_words.proofs.{Listings.requested-nowhere, Listings.requested-at}
use Rattle.program_words.proofs.put_requested.Goals as goal

pub returns-in-Some-clause-out_after : goal.returns-in-Some-clause-out_after
returns-in-Some-clause-out_after c =
    promised_as (written_none _ _ (omega (arith, c.requires.at_in_bounds))) (requested-at _ _ (sym c.in-Some.ensures))

pub returns-in-None-clause-out_after : goal.returns-in-None-clause-out_after
unfolding text
returns-in-None-clause-out_after c =
    promised_as (written _ _ _ (rw c.from.ensures at c.put_remark.ensures.out_after)) (requested-nowhere _ _ (sym c.in-None.ensures))
