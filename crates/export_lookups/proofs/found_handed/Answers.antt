-- `export_lookups::found_handed` meets its contract. Assumes nothing.
use Rattle.rules.proofs.Kit.{ℕ, ◌≡◌, refl, ap, ◌∙◌}
use Rattle.rules.specs.Numbers.{told_found, told_option}
use Rattle.std.specs.Prelude.{Option, Some, None, unwrap_or}
use Rattle.export_checks.proofs.Handed.{delivered_so, answer-delivered}
use Rattle.export_lookups.specs.Lookups.{place_or}
use Rattle.export_lookups.proofs.found_handed.Goals as goal

-- nowhere is told as 65,535
place_told : (place : Option ℕ) → unwrap_or place 65535 ≡ place_or (told_option place)
place_told None = refl
place_told (Some n) = refl

pub returns-in-Ok : goal.returns-in-Ok
returns-in-Ok c =
    let bytes = c.put16.ensures in
    answer-delivered _ _ _ _ refl (ap told_found c.in-Ok.is)
    (rw (c.unwrap_or.ensures ∙ place_told c.in-Ok.place) at (delivered_so _ _ bytes))
