-- THE ANSWER DEPENDS ONLY ON THE FIRST 65,639 BYTES OF THE INPUT. Assumes nothing.
use Rattle.rules.proofs.Kit.{ℕ, ◌≡◌, List, take}
use Rattle.rules.specs.{FaultWords.refused_words, Words.ask_words}
use Rattle.program_deliver.specs.Sizes.{read_bytes}
use Rattle.program_deliver.proofs.Prefixes.{halted_text, by_length}
use Rattle.program_ask.proofs.Prefixes.{ask_halted}

pub words_prefix : (id : ℕ) (input : List ℕ) → ask_words id (take read_bytes input) ≡ ask_words id input
unfolding ask_words
words_prefix id input = by_length (ask_words id) input (λ h. halted_text (refused_words id) _ _ (ask_halted id input h))
