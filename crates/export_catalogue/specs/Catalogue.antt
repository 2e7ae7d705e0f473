-- For the exported functions that check a catalogue: their refusals in their order, and the word and bank that they leave.
use Rattle.std.specs.Prelude.{ℕ, List, ◌++◌}
use Rattle.rules.specs.Records.{listed_of, policy_of}
use Rattle.rules.specs.Refused.{Faults, first_fault, unless, bank_faults}
use Rattle.rules.specs.Validate.{catalog_faults}
use Rattle.rules.specs.Trust.{early_faults, ordered_of}
use Rattle.rules.specs.Stored.{policy_byte_faults}
use Rattle.export_checks.specs.Checks.{word_of}

-- ---- `volankizo_validate` and `volankizo_trust`

-- 22, 23, 1, 2, then 10 to 15
abbrev pub validate_faults : List ℕ → List ℕ → Faults
validate_faults policy bank =
    policy_byte_faults policy ++ (bank_faults bank ++ catalog_faults (policy_of policy) (listed_of bank))

-- 22, 23, 1, 2, 16, 17: these leave the bank as it was
abbrev pub untrusted_faults : List ℕ → List ℕ → Faults
untrusted_faults policy bank = policy_byte_faults policy ++ early_faults bank

-- those, then 10 to 15 of the ordered bank
abbrev pub trust_faults : List ℕ → List ℕ → Faults
trust_faults policy bank =
    policy_byte_faults policy
    ++ (early_faults bank ++ catalog_faults (policy_of policy) (listed_of (ordered_of bank)))

-- Word and bank
abbrev pub trust_call : List ℕ → List ℕ → ℕ × List ℕ
trust_call policy bank =
    (word_of (first_fault (trust_faults policy bank)), unless (untrusted_faults policy bank) (λ f. bank) (ordered_of bank))
