-- What refuses a batch: what is said of every fault of a list, and the word of the first; then a row of requests, from place to place.
-- Assumes nothing.
use Rattle.rules.proofs.Kit.{ℕ, suc, ◌+◌, ◌-◌, ◌*◌, ◌/◌, ◌%◌, ◌<◌, ◌≤◌, ◌≡◌, refl, sym, ap, ◌∙◌, Bool, true, false, not, ◌||◌, List, [], ◌∷◌, ◌++◌}
use Rattle.rules.proofs.Kit.{arith, add-one, append_assoc, eqb, ltb, length}
use Rattle.rules.specs.{Limits.max_u32, Bytes.number_at, Refused.Fault, Refused.Faults, Refused.fault, Refused.input_fault}
use Rattle.rules.specs.{Refused.refuse_if, Refused.first_fault, Refused.unless}
use Rattle.rules.specs.{Refused.length_faults, Refused.size_faults, Refused.room_faults, Refused.told_refusal, Refused.told_outcome, Decide.request_faults}
use Rattle.rules.specs.{Batch.requests_faults, Batch.batch_faults_over, Listing.every_record, Decide.too_high, Stored.policy_size_faults}
use Rattle.rules.specs.{Stored.rounding_faults, Stored.policy_byte_faults}
use Rattle.rules.specs.{declared.records.KernelInput.KernelInput, declared.refusal.Refusal.Refusal}
use Rattle.std.specs.Prelude.{Option, Some, None, Ok, Err, ⊤}
use Rattle.rules.proofs.Faults.{none_first, none_after, below_none, passed, unless_refused, append_refused, room_passed, few_records}
use Rattle.unpacking_policy.proofs.Policies.{policy_sized}
use Rattle.export_checks.specs.Checks.{word_at}
use Rattle.export_checks.proofs.Tests.{size_is}
use Rattle.export_batch.specs.Batches.{LentRow, request_at, requests_from, requests_of, row_size_faults, row_faults, batch_call_faults}
use Rattle.export_batch.specs.Batches.{batch_checked_call_faults}
use Rattle.export_batch.proofs.Rows.{length_requests}

-- ---- every fault of a list

unfoldable pub Each : (Fault → Type 0) → Faults → Type 0
Each P [] = Unit {0}
Each P (f ∷ fs) = P f × Each P fs

each_test : (P : Fault → Type 0) (t : Bool) (f : Fault) → P f → Each P (refuse_if t f)
unfolding Each
each_test P true f h = (h, tt)
each_test P false f h = tt

each_both : (P : Fault → Type 0) (fs gs : Faults) → Each P fs → Each P gs → Each P (fs ++ gs)
unfolding Each
each_both P [] gs h k = k
each_both P (f ∷ fs) gs h k = (h.0, each_both P fs gs h.1 k)

-- WHAT IS SAID OF EVERY ONE IS SAID OF THE FIRST
pub each_first : (r : Refusal) (P : Fault → Type 0) (fs : Faults) → Each P fs → told_outcome (Err r) ≡ first_fault fs → P (told_refusal r)
unfolding Each first_fault told_outcome
each_first r P [] h told = absurd (let z : ◌≡◌ {A = ℕ} 0 1 = cc in omega arith)
each_first r P (f ∷ fs) h told = let s : told_refusal r ≡ f = cc in rw s h.0

-- ---- the word of the first

-- as a batch tells it: with the place that it carries
abbrev pub own_word : Fault → ℕ
own_word f = word_at f.place f

abbrev pub first_word : Faults → Option ℕ
first_word fs = unless fs (λ f. Some (own_word f)) None

abbrev pub Placeless : Fault → Type 0
Placeless f = f.place ≡ 0

module _ (hs : Faults) (out : List ℕ) (a : ℕ × List ℕ) where
  -- A REFUSAL THAT TELLS NO PLACE, of tests that come first
  pub row-refused : {w : ℕ} (r : Refusal) (fs : Faults) → Each Placeless fs → told_outcome (Err r) ≡ first_fault fs
      → told_outcome (Err r) ≡ first_fault hs → w ≡ word_at 0 (told_refusal r) → (w, out) ≡ unless hs (λ f. (own_word f, out)) a
  row-refused {w} r fs each told first is =
      let own : w ≡ own_word (told_refusal r) = is ∙ rw (each_first r Placeless fs each told) in
      rw own (sym (unless_refused hs (λ f. (own_word f, out)) a refl first))

  -- A WORD is that of a fault
  pub row-bad : {gs : Faults} {w : ℕ} → hs ≡ gs → Some w ≡ first_word gs → (w, out) ≡ unless hs (λ f. (own_word f, out)) a
  row-bad {gs} {w} same is = rw same (go gs is)
    where
      go : (fs : Faults) → Some w ≡ first_word fs → (w, out) ≡ unless fs (λ f. (own_word f, out)) a
      go [] i = cc
      go (f ∷ fs) i = let e : w ≡ own_word f = cc in rw e

  -- NO FAULT: what is owed
  pub row-passed : {p : ℕ × List ℕ} → hs ≡ [] → p ≡ a → p ≡ unless hs (λ f. (own_word f, out)) a
  row-passed none is = rw none is

-- ---- which faults tell a place

plain : (t : Bool) (n : ℕ) → Each Placeless (refuse_if t (fault n))
plain t n = each_test Placeless t (fault n) refl

size_placeless : (size count : ℕ) → Each Placeless (row_size_faults size count)
unfolding row_size_faults size_faults
size_placeless size count = each_both Placeless _ _ (plain (ltb max_u32 count) 22) (plain (not (eqb size (70 * count))) 22)

policy_placeless : (s : List ℕ) → Each Placeless (policy_byte_faults s)
unfolding policy_size_faults rounding_faults
policy_placeless s =
    let sized = eqb (length s) 30 || eqb (length s) 31 || eqb (length s) 35 in
    each_both Placeless _ _ (plain (not sized) 22) (plain (ltb 1 (number_at s 30 1)) 23)

bank_placeless : (n : ℕ) → Each Placeless (length_faults n)
unfolding length_faults
bank_placeless n = each_both Placeless _ _ (plain (not (eqb (n % 47) 0)) 1) (plain (ltb 65535 (n / 47)) 2)

room_placeless : (needed room : ℕ) → Each Placeless (room_faults needed room)
unfolding room_faults
room_placeless needed room = plain (ltb room needed) 4

-- THOSE BEFORE THE REQUESTS' tell none
pub row_placeless : (l : LentRow) (room : ℕ) → Each Placeless (batch_call_faults l (every_record l.bank) room)
unfolding batch_call_faults
row_placeless l room =
    each_both Placeless _ _ (each_both Placeless _ _ (size_placeless _ _) (policy_placeless l.policy))
    (each_both Placeless _ _ (bank_placeless (length l.bank)) (room_placeless _ _))

-- THE REQUEST'S are what each of its fields is told as
request_each : (P : Fault → Type 0) (q : KernelInput) (place : ℕ) → ((field value : ℕ) → P (input_fault field value place))
    → Each P (request_faults q place)
unfolding request_faults
request_each P q place h =
    each_both P _ _ (each_both P _ _ (its 1 q.risk_bps) (its 2 q.confidence_bps)) (its 3 q.minimum_quality_bps)
  where
    its : (field value : ℕ) → Each P (too_high place field value)
    its field value = each_test P (ltb 10000 value) (input_fault field value place) (h field value)

-- NO WORD says that no request has a fault
pub no_bad : (fs : Faults) → None ≡ first_word fs → fs ≡ []
no_bad [] e = refl
no_bad (f ∷ fs) e = cc

-- ---- from place to place

-- from the first on
pub bad_first : (rs : List ℕ) (count : ℕ) → requests_faults 0 (requests_from rs 0 count) ≡ requests_faults 0 (requests_from rs 0 (count - 0))
bad_first rs count = let e : count ≡ count - 0 = omega arith in ap (λ (n : ℕ). requests_faults 0 (requests_from rs 0 n)) e

module _ (rs : List ℕ) (count i : ℕ) where
  abbrev pub from_here : Faults
  from_here = requests_faults i (requests_from rs i (count - i))

  -- past the last request there is none
  pub bad-none : count ≤ i → None ≡ first_word from_here
  unfolding requests_faults requests_from
  bad-none h = let e : count - i ≡ 0 = omega arith in rw e

  -- the next one's come first
  here : i < count → from_here ≡ request_faults (request_at rs i) i ++ requests_faults (suc i) (requests_from rs (suc i) (count - suc i))
  unfolding requests_faults requests_from
  here h = let e : count - i ≡ suc (count - suc i) = omega arith in rw e

  -- THE REQUEST AT A PLACE IS REFUSED, with that place
  pub bad-here : {w : ℕ} (r : Refusal) → i < count → told_outcome (Err r) ≡ first_fault (request_faults (request_at rs i) i)
      → w ≡ word_at i (told_refusal r) → Some w ≡ first_word from_here
  bad-here {w} r h told is =
      let its = each_first r (λ f. f.place ≡ i) _ (request_each (λ f. f.place ≡ i) (request_at rs i) i (λ field value. refl)) told in
      let own : w ≡ own_word (told_refusal r) = is ∙ rw its in
      ap Some own ∙ sym (rw (here h) (unless_refused _ (λ f. Some (own_word f)) None refl (append_refused _ _ refl told)))

  -- OR THE SEARCH GOES ON AT THE NEXT
  pub bad-next : {u : ⊤} → i < count → told_outcome (Ok u) ≡ first_fault (request_faults (request_at rs i) i)
      → from_here ≡ requests_faults (i + 1) (requests_from rs (i + 1) (count - (i + 1)))
  bad-next h told = here h ∙ rw (passed _ told, add-one i)

-- ---- a batch whose tests are passed

module _ (l : LentRow) (room : ℕ) where
  -- THE CHECKED BATCH'S TESTS are those of the batch, then the requests'
  pub checked-joined : batch_checked_call_faults l (every_record l.bank) room
      ≡ batch_call_faults l (every_record l.bank) room ++ requests_faults 0 (requests_of l)
  unfolding batch_call_faults batch_checked_call_faults
  checked-joined =
      sym (append_assoc (row_faults l) (batch_faults_over (every_record l.bank) (requests_of l) (room / 65)) (requests_faults 0 (requests_of l)))

  module _ (e : batch_call_faults l (every_record l.bank) room ≡ []) where
    pub checked-rest : batch_checked_call_faults l (every_record l.bank) room ≡ requests_faults 0 (requests_of l)
    checked-rest = checked-joined ∙ rw e

    row : row_faults l ≡ []
    unfolding batch_call_faults
    row = none_first _ _ e

    size : row_size_faults (length l.requests) l.count ≡ []
    size = none_first _ _ row

    over : batch_faults_over (every_record l.bank) (requests_of l) (room / 65) ≡ []
    unfolding batch_call_faults
    over = none_after (row_faults l) _ e

    pub passed-count : l.count ≤ max_u32
    unfolding row_size_faults
    passed-count = below_none max_u32 l.count (fault 22) (none_first _ _ size)

    pub passed-requests : length l.requests ≡ 70 * l.count
    unfolding row_size_faults
    passed-requests = size_is _ _ (none_after (refuse_if (ltb max_u32 l.count) (fault 22)) _ size)

    pub passed-policy : policy_size_faults l.policy ≡ []
    passed-policy = policy_sized l.policy (none_after (row_size_faults (length l.requests) l.count) _ row)

    pub passed-bank : length l.bank / 47 ≤ 65535
    passed-bank = few_records (length l.bank) (none_first _ _ over)

    pub passed-room : 65 * l.count ≤ room
    passed-room =
        let fits = room_passed _ (room / 65) (none_after (length_faults (length l.bank)) _ over) in
        omega (arith, fits, length_requests l.requests 0 l.count)
