-- `program_words::quality_of` meets its contract. Assumes nothing.
use Rattle.rules.proofs.Kit.{arith, sym}
use Rattle.call_checks.proofs.Finding.{found_at}
use Rattle.program_words.proofs.{Listings.quality-at}
use Rattle.program_words.proofs.quality_of.Goals as goal

pub model_at-requires : goal.model_at-requires
model_at-requires c = omega (arith, (found_at _ _ _ (sym c.in-Some.ensures)).1)

pub returns : goal.returns
returns c =
    let here = sym c.in-Some.ensures in
    quality-at _ _ here (rw c.from.ensures at c.model_at.ensures)
