-- THE ANSWER DEPENDS ONLY ON THE FIRST 65,639 BYTES OF THE INPUT. Assumes nothing.
use Rattle.rules.proofs.Kit.{ℕ, ◌≡◌, List, take}
use Rattle.rules.specs.Printed.{refused_line, unit_text}
use Rattle.program_deliver.specs.Sizes.{read_bytes}
use Rattle.program_deliver.proofs.Prefixes.{halted_text, program_halted, by_length}

pub unit_prefix : (input : List ℕ) → unit_text (take read_bytes input) ≡ unit_text input
unfolding unit_text
unit_prefix input = by_length unit_text input (λ h. halted_text refused_line _ _ (program_halted input h))
