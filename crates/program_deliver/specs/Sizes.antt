-- Sizes that always suffice: of what is read of an input, and of each text.
use Rattle.std.specs.Prelude.{ℕ}

-- One byte more than the longest input whose form passes; no answer depends on what comes after
abbrev pub read_bytes : ℕ
read_bytes = 65639

-- The unit's report, the question in lines, and in words
abbrev pub unit_bytes : ℕ
unit_bytes = 840

abbrev pub ask_bytes : ℕ
ask_bytes = 670

abbrev pub words_bytes : ℕ
words_bytes = 1200
