-- What the exported functions tell in printed texts: their refusals, and the word and buffer that they leave.
use Rattle.std.specs.Prelude.{ℕ, ◌+◌, List, ◌++◌, length}
use Rattle.rules.specs.Bytes.{bytes_of}
use Rattle.rules.specs.Refused.{Faults, fault, room_faults, Answer, refused, answered}
use Rattle.export_checks.specs.Checks.{word_at, word_size, delivered, handed}

-- ---- `volankizo_unit_text`, `volankizo_ask_text` and `volankizo_ask_words`

-- 4
abbrev pub text_faults : List ℕ → ℕ → Faults
text_faults text room = room_faults (word_size + length text) room

-- A text with its length before it
abbrev pub text_bytes : List ℕ → List ℕ
text_bytes text = bytes_of word_size (length text) ++ text

abbrev pub text_call : List ℕ → List ℕ → ℕ × List ℕ
text_call text out = handed text_bytes (text_faults text (length out)) (answered text) out

-- Once a text was printed after the room for its length: it is refused for want of room alone, or gets its length
abbrev pub headed : Answer ℕ → List ℕ → ℕ × List ℕ
headed (refused f) out = (word_at 0 (fault 4), out)
headed (answered n) out = delivered (bytes_of word_size n) out
