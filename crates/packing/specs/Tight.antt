-- Fields by which code may write words of eight bytes.
use Rattle.std.specs.Prelude.{ℕ, ◌+◌, ◌≤◌, ◌≡◌, List, [], ◌∷◌}

-- Fields, each a width and a number, from a position on end where the bytes do; each has at most eight bytes, and eight have room where it starts
abbrev pub Tight : ℕ → List (ℕ × ℕ) → ℕ → Type 0
Tight at [] size = at ≡ size
Tight at (f ∷ fs) size = (f.0 ≤ 8) × (at + 8 ≤ size) × Tight (at + f.0) fs size
