-- `program_standing::standing::put_key` meets its contract. Assumes nothing.
use Rattle.rules.proofs.Kit.{rules}
use Rattle.rules.proofs.Kit.{w64, to_z-of_z}
use Rattle.rules.specs.Text.{text}
use Rattle.splice.proofs.Pieces.{written, promised_as}
use Rattle.program_standing.proofs.{Reasons.key_utility, Reasons.key_cost, Reasons.key_quality, Reasons.key_id}
use Rattle.program_standing.proofs.standing.put_key.Goals as goal

pub returns-then-terms-decision-clause-out_after : goal.returns-then-terms-decision-clause-out_after
returns-then-terms-decision-clause-out_after c =
    let w = c.put_lower_utility.ensures in
    promised_as (written _ _ _ w.out_after) (key_utility _ _ _ _ _ _ (to_z-of_z w64 c.args.terms.utility (search rules)) (to_z-of_z w64 c.args.decision.expected_utility_microunits (search rules)) c.if-terms-decision.true)

pub returns-then-lowest-cost-clause-out_after : goal.returns-then-lowest-cost-clause-out_after
unfolding text
returns-then-lowest-cost-clause-out_after c =
    let w = c.put_comparing.ensures in
    promised_as (written _ _ _ w.out_after)
    (key_cost _ _ _ _ _ _ (to_z-of_z w64 c.args.terms.utility (search rules)) (to_z-of_z w64 c.args.decision.expected_utility_microunits (search rules)) c.if-terms-decision.false c.if-lowest-cost.true)

pub returns-then-quality-highest-clause-out_after : goal.returns-then-quality-highest-clause-out_after
unfolding text
returns-then-quality-highest-clause-out_after c =
    let w = c.put_comparing-then-quality-highest.ensures in
    promised_as (written _ _ _ (rw (c.from-then-quality-highest.ensures, c.from.ensures) at w.out_after))
    (key_quality _ _ _ _ _ _ (to_z-of_z w64 c.args.terms.utility (search rules)) (to_z-of_z w64 c.args.decision.expected_utility_microunits (search rules)) c.if-terms-decision.false
    c.if-lowest-cost.false c.if-quality-highest.true)

pub returns-clause-out_after : goal.returns-clause-out_after
unfolding text
returns-clause-out_after c =
    let w = written _ _ _ c.put_text.ensures.out_after in
    promised_as w (key_id _ _ _ _ _ _ (to_z-of_z w64 c.args.terms.utility (search rules)) (to_z-of_z w64 c.args.decision.expected_utility_microunits (search rules)) c.if-terms-decision.false c.if-lowest-cost.false
    c.if-quality-highest.false)
