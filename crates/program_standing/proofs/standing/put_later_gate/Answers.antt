-- `program_standing::standing::put_later_gate` meets its contract. Assumes nothing.
use Rattle.rules.proofs.Kit.{arith}
use Rattle.rules.specs.{Choice.equal, Text.text, NotChosen.later_gate_words}
use Rattle.splice.proofs.Pieces.{written, promised_as}
use Rattle.program_standing.proofs.Reasons.{gate_eight}
use Rattle.program_standing.proofs.standing.put_later_gate.Goals as goal

pub returns-in-4-clause-out_after : goal.returns-in-4-clause-out_after
unfolding later_gate_words equal text
returns-in-4-clause-out_after c = rw c.in-4.is c.put_comparing.ensures.out_after

pub returns-in-5-clause-out_after : goal.returns-in-5-clause-out_after
unfolding later_gate_words equal text
returns-in-5-clause-out_after c = rw c.in-5.is c.put_comparing-in-5.ensures.out_after

pub returns-in-6-clause-out_after : goal.returns-in-6-clause-out_after
unfolding later_gate_words equal text
returns-in-6-clause-out_after c = rw c.in-6.is c.put_comparing-in-6.ensures.out_after

pub returns-in-7-clause-out_after : goal.returns-in-7-clause-out_after
unfolding later_gate_words equal text
returns-in-7-clause-out_after c = rw c.in-7.is c.put_comparing-in-7.ensures.out_after

pub returns-in_default-clause-out_after : goal.returns-in_default-clause-out_after
unfolding text
returns-in_default-clause-out_after c =
    promised_as (written _ _ _ c.put_comparing-in_default.ensures.out_after) (gate_eight _ _ _ (λ e. omega arith) (λ e. omega arith) (λ e. omega arith) (λ e. omega arith))
