-- Document 02, h, begun: several fields of models in a row. What refuses a run of them, its bodies and what stands after it; the fields that a bank is cut
-- into; and the two refusals of a catalogue that came in several. `Stored` doesn't read or write a run yet.
use Rattle.std.specs.Prelude.{ℕ, zero, suc, ◌-◌, ◌/◌, Bool, false, not, ◌||◌, List, [], ◌∷◌, ◌++◌, map, eqb, ltb, length, take, drop}
use Rattle.rules.specs.Limits.{full_field_bytes, max_catalog_models}
use Rattle.rules.specs.Choice.{pick}
use Rattle.rules.specs.Refused.{Faults, fault, refuse_if}
use Rattle.rules.specs.Stored.{tag_of, body_of, field_bytes, field_faults, after_of}
use Rattle.rules.specs.Trust.{joined}

-- H1. After a field with tag 2 a byte 2 begins another: what refuses such further fields, at most so many, their bodies, and what stands after them
unfoldable pub more_faults : ℕ → List ℕ → Faults
more_faults zero s = []
more_faults (suc most) s = pick (eqb (tag_of s) 2) (λ _. field_faults 2 s ++ more_faults most (after_of s)) (λ _. [])

unfoldable pub more_bodies : ℕ → List ℕ → List (List ℕ)
more_bodies zero s = []
more_bodies (suc most) s = pick (eqb (tag_of s) 2) (λ _. body_of s ∷ more_bodies most (after_of s)) (λ _. [])

unfoldable pub after_more : ℕ → List ℕ → List ℕ
after_more zero s = s
after_more (suc most) s = pick (eqb (tag_of s) 2) (λ _. after_more most (after_of s)) (λ _. s)

-- H1. A run of fields with tag 2: one, then the further ones, of which there are no more than bytes
unfoldable pub run_faults : List ℕ → Faults
run_faults s = field_faults 2 s ++ more_faults (length s) (after_of s)

unfoldable pub run_bodies : List ℕ → List (List ℕ)
run_bodies s = body_of s ∷ more_bodies (length s) (after_of s)

unfoldable pub after_run : List ℕ → List ℕ
after_run s = after_more (length s) (after_of s)

-- H2. A bank cut where a field is full: so many full fields, and one with the rest, which is empty only where the bank is
unfoldable pub cut_after : ℕ → List ℕ → List (List ℕ)
cut_after zero bank = bank ∷ []
cut_after (suc full) bank = take full_field_bytes bank ∷ cut_after full (drop full_field_bytes bank)

abbrev pub bank_fields : List ℕ → List (List ℕ)
bank_fields bank = cut_after ((length bank - 1) / full_field_bytes) bank

unfoldable pub catalogue_form : List ℕ → List ℕ
catalogue_form bank = joined (map (field_bytes 2) (bank_fields bank))

-- H3. Two fields of models side by side that no catalogue is written as: the first isn't full, or the second is empty
abbrev pub is_full : List ℕ → Bool
is_full body = eqb (length body) full_field_bytes

abbrev pub parted : Bool → ℕ → Bool
parted full next = not full || eqb next 0

unfoldable pub uneven_after : Bool → List (List ℕ) → Bool
uneven_after full [] = false
uneven_after full (body ∷ bodies) = parted full (length body) || uneven_after (is_full body) bodies

abbrev pub is_uneven : List (List ℕ) → Bool
is_uneven [] = false
is_uneven (body ∷ bodies) = uneven_after (is_full body) bodies

-- H3. Once every field and the end have passed: 26 for such a pair, then 2 for more records than a bank may have
unfoldable pub catalogue_faults : Bool → ℕ → Faults
catalogue_faults uneven records = refuse_if uneven (fault 26) ++ refuse_if (ltb max_catalog_models records) (fault 2)
