-- `text::put_signed_word` meets its contract. Assumes nothing.
use Rattle.rules.proofs.Kit.{ap, ◌∙◌, [], ◌∷◌, ℤ, w64, to_z-of_z}
use Rattle.rules.specs.Text.{signed_decimal, spaced}
use Rattle.splice.proofs.Pieces.{written_then, written, promised_as}
use Rattle.text.proofs.Words.{spaced_one}
use Rattle.text.proofs.put_signed_word.Goals as goal

pub returns-clause-out_after : goal.returns-clause-out_after
returns-clause-out_after c =
    promised_as (written_then (written _ _ _ c.put_text-next.ensures.out_after) (written _ _ _ c.put_signed.ensures.out_after))
    (spaced_one _ ∙ ap (λ (z : ℤ). spaced (signed_decimal z ∷ [])) (to_z-of_z w64 _ c.ranges.n))
