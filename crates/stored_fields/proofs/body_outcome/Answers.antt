-- `stored_fields::body_outcome` meets its contract. Assumes nothing.
use Rattle.rules.proofs.Kit.{ℕ, ◌≡◌, false, List, get_or, eq-eqb, ne_eqb}
use Rattle.stored_fields.proofs.{Bodies.not_once, Bodies.none_allowed, Bodies.rounding-within, Bodies.allowance-within, Bodies.body-unknown}
use Rattle.stored_fields.proofs.{Bodies.body-zero, Bodies.body-passes}
use Rattle.stored_fields.proofs.body_outcome.Goals as goal
use Rattle.stored_fields.proofs.body_outcome.Goals.{else-tag-eq-ROUNDING_TAG-via-then-tag-eq-ROUNDING_TAG+else-form-ne-ROUNDING_ONCE, else-tag-eq-ROUNDING_TAG-via-else-tag-eq-ROUNDING_TAG}
use Rattle.stored_fields.proofs.body_outcome.Goals.{else-tag-eq-ALLOWANCE_TAG-via-then-tag-eq-ALLOWANCE_TAG+else-u32_at-eq0, else-tag-eq-ALLOWANCE_TAG-via-else-tag-eq-ALLOWANCE_TAG}

-- a test is passed where the tag is another, or what is asked of the body holds
once : (tag : ℕ) (s : List ℕ) → tag ≡ 4 → get_or s 3 0 ≡ 1 → not_once tag s ≡ false
once tag s e f = rw (eq-eqb tag 4 e, eq-eqb (get_or s 3 0) 1 f)

another : (tag : ℕ) (s : List ℕ) → (tag ≡ 4 → ⊥) → not_once tag s ≡ false
another tag s n = rw (ne_eqb tag 4 n)

pub bounds-form-3 : goal.bounds-form-3
bounds-form-3 c = rounding-within _ _ c.requires c.if-tag-eq-ROUNDING_TAG.true

pub returns-then-form-ne-ROUNDING_ONCE : goal.returns-then-form-ne-ROUNDING_ONCE
returns-then-form-ne-ROUNDING_ONCE c = body-unknown _ _ c.requires (rw (eq-eqb _ _ c.if-tag-eq-ROUNDING_TAG.true, ne_eqb _ _ c.if-form-ne-ROUNDING_ONCE.true))

pub u32_at-requires : goal.u32_at-requires
u32_at-requires c = allowance-within _ _ c.requires c.if-tag-eq-ALLOWANCE_TAG.true

pub returns-then-u32_at-eq0 : goal.returns-then-u32_at-eq0
returns-then-u32_at-eq0 c =
    let passed : not_once c.args.tag c.args.form.now ≡ false =
    elim c.else-tag-eq-ROUNDING_TAG.branch [
      | else-tag-eq-ROUNDING_TAG-via-then-tag-eq-ROUNDING_TAG+else-form-ne-ROUNDING_ONCE w ↦ once c.args.tag c.args.form.now w.if-tag-eq-ROUNDING_TAG.true w.if-form-ne-ROUNDING_ONCE.false
      | else-tag-eq-ROUNDING_TAG-via-else-tag-eq-ROUNDING_TAG w ↦ another c.args.tag c.args.form.now w.if-tag-eq-ROUNDING_TAG.false
    ] in
    body-zero _ _ c.requires passed (rw (eq-eqb _ _ c.if-tag-eq-ALLOWANCE_TAG.true, ← c.u32_at.ensures, eq-eqb _ _ c.if-u32_at-eq0.true))

pub returns : goal.returns
returns c =
    let passed : not_once c.args.tag c.args.form.now ≡ false =
    elim c.else-tag-eq-ROUNDING_TAG.branch [
      | else-tag-eq-ROUNDING_TAG-via-then-tag-eq-ROUNDING_TAG+else-form-ne-ROUNDING_ONCE w ↦ once c.args.tag c.args.form.now w.if-tag-eq-ROUNDING_TAG.true w.if-form-ne-ROUNDING_ONCE.false
      | else-tag-eq-ROUNDING_TAG-via-else-tag-eq-ROUNDING_TAG w ↦ another c.args.tag c.args.form.now w.if-tag-eq-ROUNDING_TAG.false
    ] in
    let allowed : none_allowed c.args.tag c.args.form.now ≡ false =
    elim c.else-tag-eq-ALLOWANCE_TAG.branch [
      | else-tag-eq-ALLOWANCE_TAG-via-then-tag-eq-ALLOWANCE_TAG+else-u32_at-eq0 w ↦ rw (eq-eqb _ _ w.if-tag-eq-ALLOWANCE_TAG.true, ← w.u32_at.ensures, ne_eqb _ _ w.if-u32_at-eq0.false)
      | else-tag-eq-ALLOWANCE_TAG-via-else-tag-eq-ALLOWANCE_TAG w ↦ rw (ne_eqb _ _ w.if-tag-eq-ALLOWANCE_TAG.false)
    ] in
    body-passes _ _ c.requires passed allowed
