-- `program_input::request_in` meets its contract. Assumes nothing.
use Rattle.rules.proofs.Kit.{arith}
use Rattle.stored_layout.proofs.{Openings.opening, Lengths.request_length}
use Rattle.program_input.proofs.{Tests.fields, Tests.request_field_lem}
use Rattle.program_input.proofs.request_in.Goals as goal

pub after_opening-requires : goal.after_opening-requires
after_opening-requires c = opening _ _ (fields _ c.requires)

pub front_body-requires : goal.front_body-requires
front_body-requires c = rw c.after_opening.ensures (request_field_lem _ c.requires).whole

pub input_of-requires : goal.input_of-requires
input_of-requires c = rw (c.front_body.ensures, c.after_opening.ensures) (omega (arith, request_length _ (request_field_lem _ c.requires)))
