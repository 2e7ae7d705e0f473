-- `stored_fields::front_field` meets its contract. Assumes nothing.
use Rattle.rules.proofs.Kit.{sym, eqb-true, eqb-false}
use Rattle.stored_fields.proofs.{OneField.field-none, OneField.field_cut, OneField.field-tag}
use Rattle.stored_fields.proofs.front_field.Goals as goal

pub returns-then-is_empty : goal.returns-then-is_empty
returns-then-is_empty c = field-none _ _ (eqb-true _ _ (sym c.if-is_empty.ensures))

pub returns-then-form-lt-FIELD_HEADER_BYTES : goal.returns-then-form-lt-FIELD_HEADER_BYTES
returns-then-form-lt-FIELD_HEADER_BYTES c = field_cut _ _ (eqb-false _ _ (sym c.if-is_empty.ensures)) c.if-form-lt-FIELD_HEADER_BYTES.true

pub returns-then-form-tag : goal.returns-then-form-tag
returns-then-form-tag c = field-tag _ _ c.if-form-lt-FIELD_HEADER_BYTES.false c.if-form-tag.true
