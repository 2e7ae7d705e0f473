-- A bank as a batch has read it, once nothing refuses it.
use Rattle.std.specs.Prelude.{ℕ, List, []}
use Rattle.rules.specs.Listing.{Reading}
use Rattle.live_slots.specs.Among.{among_of}

-- S9. So many of its records are read
abbrev pub read_of : ℕ → List ℕ → Reading
read_of many bank = record { faults = []; list = among_of many bank }
