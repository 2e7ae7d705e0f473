-- The tests of the programs' input before validation.
use Rattle.std.specs.Prelude.{ℕ, ◌≡◌, List, [], ◌++◌, ltb, length}
use Rattle.rules.specs.Limits.{max_program_models}
use Rattle.rules.specs.Records.{records_in}
use Rattle.rules.specs.Refused.{Faults, fault, refuse_if}
use Rattle.rules.specs.Stored.{form_faults, stored_bank}
use Rattle.rules.specs.Printed.{program_tags}

-- N20 to N22, O4, F4. The fields stand in the input, tags 4 and 5 or not, and nothing after them
abbrev pub Formed : List ℕ → Type 0
Formed input = form_faults program_tags input ≡ []

-- N19. Those tests, then the most models that the programs take
unfoldable pub formed_faults : List ℕ → Faults
formed_faults input =
    form_faults program_tags input ++ refuse_if (ltb max_program_models (records_in (length (stored_bank input)))) (fault 19)
