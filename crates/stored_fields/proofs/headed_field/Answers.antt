-- `stored_fields::headed_field` meets its contract. Assumes nothing.
use Rattle.rules.proofs.Kit.{sym, ◌∙◌}
use Rattle.stored_fields.proofs.{OneField.field-length, OneField.field-short, OneField.field-refused, OneField.field-whole}
use Rattle.stored_fields.proofs.headed_field.Goals as goal

pub returns-then-not-fits : goal.returns-then-not-fits
returns-then-not-fits c = field-length _ _ c.requires _ (c.from-n.ensures ∙ c.u16_at.ensures) (sym c.if-not-fits.ensures)

pub returns-then-form-size : goal.returns-then-form-size
returns-then-form-size c =
    field-short _ _ c.requires _ (c.from-n.ensures ∙ c.u16_at.ensures) (sym c.if-not-fits.ensures) c.if-form-size.true

pub returns-in_err-body_outcome : goal.returns-in_err-body_outcome
returns-in_err-body_outcome c =
    field-refused _ _ c.requires _ (c.from-n.ensures ∙ c.u16_at.ensures) (sym c.if-not-fits.ensures) c.if-form-size.false
    _ _ c.from_residual.ensures.1 c.in_err-body_outcome.ensures

pub returns : goal.returns
returns c =
    field-whole _ _ c.requires _ (c.from-n.ensures ∙ c.u16_at.ensures) (sym c.if-not-fits.ensures) c.if-form-size.false
    c.in_ok-body_outcome.ensures
