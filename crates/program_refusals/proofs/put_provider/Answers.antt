-- `program_refusals::put_provider` meets its contract. Assumes nothing.
use Rattle.rules.specs.Text.{text}
use Rattle.splice.proofs.Pieces.{written_then, written, promised_as}
use Rattle.program_refusals.proofs.{Joins.provider_joins}
use Rattle.program_refusals.proofs.put_provider.Goals as goal

pub returns-clause-out_after : goal.returns-clause-out_after
unfolding text
returns-clause-out_after c =
    let q = written _ _ _ c.put_byte.ensures.out_after in
    promised_as (written_then (written _ _ _ (rw (c.from.ensures, c.from-2.ensures) at c.put_comparing-end.ensures.out_after)) q) (provider_joins _ _)
