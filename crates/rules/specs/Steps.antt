-- Document 02, h: a form that comes in parts of any size. What a reader knows of it after each byte, what it keeps of it, and what it tells at the end.
use Rattle.std.specs.Prelude.{ℕ, ◌+◌, ◌*◌, ◌-◌, min, Bool, false, cond, not, ◌&&◌, ◌||◌, List, [], ◌∷◌, ◌++◌, eqb, ltb, set, take}
use Rattle.rules.specs.Limits.{record_bytes, request_bytes, policy_bytes, rounded_policy_bytes, longest_policy_bytes, full_field_bytes, max_catalog_models}
use Rattle.rules.specs.Choice.{equal}
use Rattle.rules.specs.Bytes.{number_at, packed}
use Rattle.rules.specs.Records.{policy_of, records_in}
use Rattle.rules.specs.Refused.{Faults, fault, told_refusal, room_faults, Answer, answered, unless, refused}
use Rattle.rules.specs.Numbers.{StoredPolicy}
use Rattle.rules.specs.Stored.{fits}
use Rattle.rules.specs.Runs.{parted, catalogue_faults}
use Rattle.rules.specs.declared.refusal.Refusal.{Refusal}
use Rattle.rules.specs.declared.refusal.Refusal.TheVariants as refusal
use Rattle.rules.specs.declared.forms.Within.{Within}
use Rattle.rules.specs.declared.forms.Within.TheVariants.{Front, Tagged, Sized, Body, Broken}
use Rattle.rules.specs.declared.forms.Reader.{Reader}

-- ---- which field comes after which

-- H5. Whether a field with a tag may come after one with another, 0 for none: in a stored form, or in the program's input, where a request is asked for
unfoldable pub may_follow : Bool → ℕ → ℕ → Bool
may_follow asked before tag =
    equal before 0 (eqb tag 1)
    (equal before 1 (eqb tag 2)
    (equal before 2 (eqb tag 2 || eqb tag 4 || eqb tag 5 || (asked && eqb tag 3))
    (equal before 4 (eqb tag 5 || (asked && eqb tag 3))
    (equal before 5 (asked && eqb tag 3) false))))

-- H5. Whether one has to: the policy, the catalogue, and the request where it is asked for
unfoldable pub must_follow : Bool → ℕ → Bool
must_follow asked before = ltb before 2 || (asked && not (eqb before 3))

-- ---- one byte

-- H5. A body that came so far is none of its tag: of tag 4 until its byte was a 1, of tag 5 until one wasn't 0
abbrev pub lacks_at_first : ℕ → Bool
lacks_at_first tag = eqb tag 4 || eqb tag 5

unfoldable pub lacks_after : ℕ → Bool → ℕ → Bool
lacks_after tag lacks b = equal tag 4 (not (eqb b 1)) (lacks && eqb b 0)

-- H5, O4, F4. The end of a body, which is refused where it lacks something; a body with so many bytes to come
abbrev pub lack_refusal : ℕ → Refusal
lack_refusal tag = equal tag 4 refusal.UnknownRounding refusal.ZeroAllowance

unfoldable pub ended : ℕ → Bool → Within
ended tag lacks = cond lacks (Broken (lack_refusal tag)) Front

unfoldable pub inside : ℕ → ℕ → Bool → Within
inside tag left lacks = equal left 0 (ended tag lacks) (Body left lacks)

-- H5, N21. A byte at the front of a field: 21 where no field has to come and this one may not
unfoldable pub begun : Bool → ℕ → ℕ → Within
begun asked before b = cond (must_follow asked before || may_follow asked before b) (Tagged b) (Broken refusal.WrongTag)

abbrev pub moved : Reader → Within → Reader
moved r w = record { within = w; tag = r.tag; full = r.full; uneven = r.uneven; size = r.size }

-- H3, H5. A whole header that passes. Where it and the field before have tag 2, the two may be uneven
unfoldable pub entered : Reader → ℕ → ℕ → Reader
entered r tag n = record {
  within = inside tag n (lacks_at_first tag);
  tag = tag;
  full = eqb n full_field_bytes;
  uneven = r.uneven || (eqb r.tag 2 && eqb tag 2 && parted r.full n);
  size = r.size;
}

-- H5, N21, N22. A whole header: 21 for a tag that may not come here, 22 for a length that the tag doesn't have
unfoldable pub opened : Bool → Reader → ℕ → ℕ → Reader
opened asked r tag n =
    cond (may_follow asked r.tag tag) (cond (fits tag n) (entered r tag n) (moved r (Broken refusal.WrongLength))) (moved r (Broken refusal.WrongTag))

-- H5. A byte of a body. Those of models are counted, to one model above the most: 2 is told of any larger count too
abbrev pub most_counted : ℕ
most_counted = record_bytes * (max_catalog_models + 1)

unfoldable pub counted : ℕ → ℕ → ℕ
counted tag size = equal tag 2 (min most_counted (size + 1)) size

unfoldable pub passed : Reader → ℕ → Bool → ℕ → Reader
passed r left lacks b = record {
  within = inside r.tag (left - 1) (lacks_after r.tag lacks b);
  tag = r.tag;
  full = r.full;
  uneven = r.uneven;
  size = counted r.tag r.size;
}

-- H5. One byte, by where the reader stands
unfoldable pub step_at : Bool → Within → Reader → ℕ → Reader
step_at asked Front r b = moved r (begun asked r.tag b)
step_at asked (Tagged tag) r b = moved r (Sized tag b)
step_at asked (Sized tag low) r b = opened asked r tag (low + 256 * b)
step_at asked (Body left lacks) r b = passed r left lacks b
step_at asked (Broken k) r b = r

abbrev pub step_of : Bool → Reader → ℕ → Reader
step_of asked r b = step_at asked r.within r b

-- ---- what is kept

-- H6. A policy's bytes in their longest form, where the bodies of tags 1, 4 and 5 end at 30, 31 and 35, and a request's 70 after them, as far as there is
-- room; and a lent bank, which has the models from its start on, as far as there is room
abbrev pub policy_end : ℕ → ℕ
policy_end tag = equal tag 1 policy_bytes (equal tag 4 rounded_policy_bytes (equal tag 5 longest_policy_bytes (longest_policy_bytes + request_bytes)))

unfoldable pub kept_policy : Within → ℕ → ℕ → List ℕ → List ℕ
kept_policy Front tag b policy = policy
kept_policy (Tagged t) tag b policy = policy
kept_policy (Sized t low) tag b policy = policy
kept_policy (Body left lacks) tag b policy = equal tag 2 policy (set policy (policy_end tag - left) b)
kept_policy (Broken k) tag b policy = policy

unfoldable pub kept_bank : Within → ℕ → ℕ → ℕ → List ℕ → List ℕ
kept_bank Front tag size b bank = bank
kept_bank (Tagged t) tag size b bank = bank
kept_bank (Sized t low) tag size b bank = bank
kept_bank (Body left lacks) tag size b bank = equal tag 2 (set bank size b) bank
kept_bank (Broken k) tag size b bank = bank

-- H6. A reader with what it keeps, after one byte and after many
pub record Fed : Type 0 where
  pub reader : Reader
  pub policy : List ℕ
  pub bank : List ℕ

abbrev pub fed : Reader → List ℕ → List ℕ → Fed
fed r policy bank = record { reader = r; policy = policy; bank = bank }

abbrev pub step_fed : Bool → Fed → ℕ → Fed
step_fed asked f b =
    fed (step_of asked f.reader b) (kept_policy f.reader.within f.reader.tag b f.policy)
    (kept_bank f.reader.within f.reader.tag f.reader.size b f.bank)

unfoldable pub feed_of : Bool → Fed → List ℕ → Fed
feed_of asked f [] = f
feed_of asked f (b ∷ bs) = feed_of asked (step_fed asked f b) bs

-- H5. Before the first byte
abbrev pub start_of : Reader
start_of = record { within = Front; tag = 0; full = false; uneven = false; size = 0 }

-- ---- what is told

-- H5. That the form is refused, whatever comes
unfoldable pub broken_at : Within → Faults
broken_at Front = []
broken_at (Tagged tag) = []
broken_at (Sized tag low) = []
broken_at (Body left lacks) = []
broken_at (Broken k) = told_refusal k ∷ []

-- H5, N20, N21. At the end: 21 where a field is missing, 20 within one; then what refuses the catalogue
unfoldable pub end_at : Bool → Within → Reader → Faults
end_at asked Front r = cond (must_follow asked r.tag) (fault 21 ∷ []) (catalogue_faults r.uneven (records_in r.size))
end_at asked (Tagged tag) r = fault 20 ∷ []
end_at asked (Sized tag low) r = fault 20 ∷ []
end_at asked (Body left lacks) r = fault 20 ∷ []
end_at asked (Broken k) r = told_refusal k ∷ []

abbrev pub end_faults : Bool → Reader → Faults
end_faults asked r = end_at asked r.within r

-- H6. The answer at the end of a stored form: as `read_stored_of`, 4 last
unfoldable pub read_end_of : Reader → List ℕ → ℕ → Answer StoredPolicy
read_end_of r policy room = unless (end_faults false r ++ room_faults r.size room) refused (answered (record { policy = policy_of policy; size = r.size }))

-- ---- a reader in lent bytes

-- H7. 48 bytes: the policy's 35; where the reader stands, 0 at a field's front, 1 after its tag, 2 after the lower byte of its length, else in its body; that
-- tag; that byte; whether the body lacks something; how many of its bytes are to come; tag, full, uneven, size. Of 48 bytes of 0 a reader begins, and any
-- 48 are one. No broken reader is put into bytes, since a step that breaks the form writes nothing
abbrev pub state_bytes : ℕ
state_bytes = 48

abbrev bit : Bool → ℕ
bit b = cond b 1 0

abbrev is_set : List ℕ → ℕ → Bool
is_set s offset = not (eqb (number_at s offset 1) 0)

unfoldable pub within_fields : Within → List (ℕ × ℕ)
within_fields Front = (1, 0) ∷ (1, 0) ∷ (1, 0) ∷ (1, 0) ∷ (2, 0) ∷ []
within_fields (Tagged tag) = (1, 1) ∷ (1, tag) ∷ (1, 0) ∷ (1, 0) ∷ (2, 0) ∷ []
within_fields (Sized tag low) = (1, 2) ∷ (1, tag) ∷ (1, low) ∷ (1, 0) ∷ (2, 0) ∷ []
within_fields (Body left lacks) = (1, 3) ∷ (1, 0) ∷ (1, 0) ∷ (1, bit lacks) ∷ (2, left) ∷ []
within_fields (Broken k) = (1, 0) ∷ (1, 0) ∷ (1, 0) ∷ (1, 0) ∷ (2, 0) ∷ []

abbrev pub reader_fields : Reader → List (ℕ × ℕ)
reader_fields r = within_fields r.within ++ (1, r.tag) ∷ (1, bit r.full) ∷ (1, bit r.uneven) ∷ (4, r.size) ∷ []

unfoldable pub state_of : Reader → List ℕ → List ℕ
state_of r policy = policy ++ packed (reader_fields r)

unfoldable pub within_of : List ℕ → Within
within_of s =
    equal (number_at s 35 1) 0 Front
    (equal (number_at s 35 1) 1 (Tagged (number_at s 36 1))
    (equal (number_at s 35 1) 2 (Sized (number_at s 36 1) (number_at s 37 1)) (Body (number_at s 39 2) (is_set s 38))))

unfoldable pub reader_of : List ℕ → Reader
reader_of s = record { within = within_of s; tag = number_at s 41 1; full = is_set s 42; uneven = is_set s 43; size = number_at s 44 4 }

abbrev pub state_policy : List ℕ → List ℕ
state_policy s = take longest_policy_bytes s
