-- Which slots of a bank have an entry, how many bytes so many entries need, and records of a bank that nothing refused.
use Rattle.std.specs.Prelude.{ℕ, ◌*◌, Bool, ◌&&◌, List, [], eqb, ltb}
use Rattle.rules.specs.Limits.{explanation_bytes}
use Rattle.rules.specs.Choice.{below}
use Rattle.rules.specs.Records.{Listed}
use Rattle.rules.specs.Listing.{Reading}
use Rattle.rules.specs.Decide.{stopped_by}
use Rattle.rules.specs.declared.records.KernelInput.{KernelInput}
use Rattle.rules.specs.declared.records.PolicySnapshot.{PolicySnapshot}

-- S9. A slot has no entry where fewer records are read than there are slots and its id is 0
unfoldable pub is_skipped : ℕ → ℕ → ℕ → Bool
is_skipped many slots id = ltb many slots && eqb id 0

-- D27, N4. The bytes of so many records' entries; a stopped request has none
unfoldable pub bytes_for : PolicySnapshot → KernelInput → ℕ → ℕ
bytes_for p q many = below 0 (stopped_by p q) 0 (explanation_bytes * many)

-- Records of a bank that nothing refused
abbrev pub unrefused : List Listed → Reading
unrefused ls = record { faults = []; list = ls }
