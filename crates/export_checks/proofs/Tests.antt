-- What tests that hand nothing back tell: the lengths, the bank, the room. Assumes nothing.
use Rattle.rules.proofs.Kit.{ℕ, ◌<◌, ◌≤◌, ◌≡◌, List, [], ◌∷◌, ◌++◌, arith, eq-eqb, ne_eqb, lt-ltb, length}
use Rattle.rules.specs.{Limits.policy_bytes, Limits.request_bytes, Limits.max_catalog_models, Records.records_in, Refused.Faults, Refused.fault}
use Rattle.rules.specs.{Refused.bank_faults, Refused.size_faults, Refused.room_faults, Stored.policy_size_faults, Stored.policy_byte_faults}
use Rattle.rules.proofs.Faults.{none_first, none_after, equal_none, room_passed, few_records}
use Rattle.unpacking_policy.proofs.Policies.{policy_sized, policy-long}
use Rattle.export_checks.specs.Checks.{Lent, then_room, after_policy, after_request, lent_faults, call_faults}

module _ (have want : ℕ) where
  -- No 22: the length is the one that is wanted
  pub size_is : size_faults have want ≡ [] → have ≡ want
  unfolding size_faults
  size_is e = equal_none have want (fault 22) e

  -- 22 where it is another one, and else what comes after it
  pub size-other : {fs : Faults} → (have ≡ want → ⊥) → size_faults have want ++ fs ≡ fault 22 ∷ fs
  unfolding size_faults
  size-other h = rw (ne_eqb have want h)

  pub size_none : have ≡ want → size_faults have want ≡ []
  unfolding size_faults
  size_none h = rw (eq-eqb have want h)

  pub size_same : {fs : Faults} → have ≡ want → size_faults have want ++ fs ≡ fs
  unfolding size_faults
  size_same h = rw (eq-eqb have want h)

-- 4 where there is no room
pub room_first : (needed room : ℕ) → room < needed → room_faults needed room ≡ fault 4 ∷ []
unfolding room_faults
room_first needed room h = rw (lt-ltb room needed h)

-- ---- what opens a call, however the bank is read

module _ (bank : Faults) (needed room : ℕ) (e : then_room bank needed room ≡ []) where
  -- No 4: there is room
  pub then-room : needed ≤ room
  then-room = room_passed needed room (none_after bank (room_faults needed room) e)

module _ (policy : List ℕ) (bank : Faults) (needed room : ℕ) (e : after_policy policy bank needed room ≡ []) where
  pub after-policy : policy_size_faults policy ≡ []
  after-policy = policy_sized policy (none_first _ _ e)

  pub after-long : policy_bytes ≤ length policy
  after-long = policy-long policy after-policy

  pub after-lent : then_room bank needed room ≡ []
  after-lent = none_after (policy_byte_faults policy) _ e

module _ (l : Lent) (bank : Faults) (needed room : ℕ) (e : after_request l bank needed room ≡ []) where
  pub after-request : request_bytes ≤ length l.request
  after-request = let is = size_is (length l.request) request_bytes (none_first _ _ e) in omega arith

  pub after-rest : after_policy l.policy bank needed room ≡ []
  after-rest = none_after (size_faults (length l.request) request_bytes) _ e

-- ---- and where every record of it is

pub lent_room : (bank : List ℕ) (needed room : ℕ) → lent_faults bank needed room ≡ [] → needed ≤ room
lent_room bank needed room e = then-room (bank_faults bank) needed room e

module _ (l : Lent) (needed room : ℕ) (e : call_faults l needed room ≡ []) where
  rest : after_policy l.policy (bank_faults l.bank) needed room ≡ []
  unfolding call_faults
  rest = after-rest l (bank_faults l.bank) needed room e

  lending : lent_faults l.bank needed room ≡ []
  lending = after-lent l.policy (bank_faults l.bank) needed room rest

  pub call-policy : policy_size_faults l.policy ≡ []
  call-policy = after-policy l.policy (bank_faults l.bank) needed room rest

  pub call-request : request_bytes ≤ length l.request
  unfolding call_faults
  call-request = after-request l (bank_faults l.bank) needed room e

  -- what a call that takes them asks for
  pub call-lent : (policy_size_faults l.policy ≡ []) × (request_bytes ≤ length l.request) × (records_in (length l.bank) ≤ max_catalog_models)
  call-lent = (call-policy, call-request, few_records (length l.bank) (none_first _ _ lending))

  pub call-room : needed ≤ room
  call-room = lent_room l.bank needed room lending
