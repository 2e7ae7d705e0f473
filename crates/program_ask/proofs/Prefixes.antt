-- THE ANSWER DEPENDS ONLY ON THE FIRST 65,639 BYTES OF THE INPUT. Assumes nothing.
use Rattle.rules.proofs.Kit.{ℕ, ◌≤◌, ◌≡◌, List, length, take}
use Rattle.rules.specs.Printed.{refused_line, ask_faults, ask_text}
use Rattle.program_deliver.specs.Sizes.{read_bytes}
use Rattle.program_deliver.proofs.Prefixes.{Halted, halted_more, halted_text, program_halted, by_length}

pub ask_halted : (id : ℕ) (s : List ℕ) → read_bytes ≤ length s → Halted (ask_faults id (take read_bytes s)) (ask_faults id s)
unfolding ask_faults
ask_halted id s long = halted_more _ _ (program_halted s long)

pub ask_prefix : (id : ℕ) (input : List ℕ) → ask_text id (take read_bytes input) ≡ ask_text id input
unfolding ask_text
ask_prefix id input = by_length (ask_text id) input (λ h. halted_text refused_line _ _ (ask_halted id input h))
