-- What opens an exported function that runs over live records, or edits them: 34 stands after 2, and 4 after it.
use Rattle.std.specs.Prelude.{ℕ, List, ◌++◌}
use Rattle.rules.specs.Records.{input_of}
use Rattle.rules.specs.Refused.{Faults}
use Rattle.rules.specs.Decide.{request_faults}
use Rattle.rules.specs.Slots.{live_faults}
use Rattle.export_checks.specs.Checks.{Lent, then_room, after_policy, after_request}

-- 1, 2, 34, 4
abbrev pub live_lent_faults : List ℕ → ℕ → ℕ → Faults
live_lent_faults bank needed room = then_room (live_faults bank) needed room

-- 22, 23, 1, 2, 34, 4: a policy with its bank
abbrev pub live_policy_faults : List ℕ → List ℕ → ℕ → ℕ → Faults
live_policy_faults policy bank needed room = after_policy policy (live_faults bank) needed room

-- 22, 23, 1, 2, 34, 4: a request besides
unfoldable pub live_call_faults : Lent → ℕ → ℕ → Faults
live_call_faults l needed room = after_request l (live_faults l.bank) needed room

-- 22, 23, 1, 2, 34, 4, 3: the request's fields besides
abbrev pub live_checked_faults : Lent → ℕ → ℕ → Faults
live_checked_faults l needed room = live_call_faults l needed room ++ request_faults (input_of l.request) 0
