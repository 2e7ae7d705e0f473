-- `program_input::bank_in` meets its contract. Assumes nothing.
use Rattle.program_input.proofs.{Tests.fields}
use Rattle.program_input.proofs.bank_in.Goals as goal

pub after_front-requires : goal.after_front-requires
after_front-requires c = (fields _ c.requires).policy.whole

pub front_body-requires : goal.front_body-requires
front_body-requires c = rw c.after_front.ensures (fields _ c.requires).bank.whole
