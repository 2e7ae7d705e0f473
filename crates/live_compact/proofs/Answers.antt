-- ANY TWO PERMITTED ANSWERS OF A COMPACTION ARE EQUAL, and any two permitted banks. Assumes nothing.
use Rattle.rules.proofs.Kit.{ℕ, List}
use Rattle.rules.specs.{Edits.compact_of, Edits.compact_bank, declared.records.PolicySnapshot.PolicySnapshot}
use Rattle.live_edits.proofs.Answers.{Same, one_edit}

pub one_compact : (p : PolicySnapshot) (bank : List ℕ) → Same (compact_of p bank) (compact_bank p bank)
one_compact p bank = one_edit _ _
