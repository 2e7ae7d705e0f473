-- `program_words::put_listed` meets its contract. Assumes nothing.
use Rattle.rules.proofs.Kit.{arith, sym}
use Rattle.rules.specs.Numbers.{told_boundaries}
use Rattle.splice.proofs.Pieces.{written, written_none, promised_as}
use Rattle.call_checks.proofs.Finding.{found_at}
use Rattle.program_words.proofs.{Listings.listed-nowhere, Listings.listed_at}
use Rattle.program_words.proofs.put_listed.Goals as goal

pub returns-in_default : goal.returns-in_default
returns-in_default c =
    let a = c.args in
    let nowhere = sym c.in_default.ensures in
    promised_as (written_none _ _ (omega (arith, c.requires.at_in_bounds)))
    (listed-nowhere _ _ nowhere a.policy a.input (told_boundaries a.asked))

pub model_at-model-requires : goal.model_at-model-requires
model_at-model-requires c = omega (arith, (found_at _ _ _ (sym c.in-Some.ensures)).1)

pub returns : goal.returns
returns c =
    let a = c.args in
    let here = sym c.in-Some.ensures in
    promised_as (written _ _ _ c.put_model.ensures) (listed_at _ _ here (rw c.from.ensures at c.model_at-model.ensures) a.policy a.input (told_boundaries a.asked))
