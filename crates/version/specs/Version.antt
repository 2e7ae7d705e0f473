-- Which version this is, as one number.
use Rattle.std.specs.Prelude.{ℕ, ◌+◌, ◌*◌}

-- A version's three parts as one number, so that a later version has a higher one
abbrev pub version_number : ℕ → ℕ → ℕ → ℕ
version_number major minor patch = 1000000 * major + 1000 * minor + patch

-- This one: 0.5.0, as the file VERSION says
abbrev pub this_version : ℕ
this_version = version_number 0 5 0
