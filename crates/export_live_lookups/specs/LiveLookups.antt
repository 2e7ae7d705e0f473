-- For each exported function that looks up a live record: its refusals in their order, and the word and buffer that it leaves.
use Rattle.std.specs.Prelude.{ℕ, List, length}
use Rattle.rules.specs.Records.{input_of, policy_of}
use Rattle.rules.specs.Live.{live_find_of, live_utility_for_model_of}
use Rattle.export_checks.specs.Checks.{Lent, word_size, handed}
use Rattle.export_lookups.specs.Lookups.{utility_bytes, place_size, place_bytes}
use Rattle.export_live_checks.specs.LiveChecks.{live_lent_faults, live_call_faults}

-- `volankizo_live_find`: 1, 2, 34, 4
abbrev pub live_find_call : List ℕ → ℕ → List ℕ → ℕ × List ℕ
live_find_call bank id out = handed place_bytes (live_lent_faults bank place_size (length out)) (live_find_of id bank) out

-- `volankizo_live_utility_for_model`: 22, 23, 1, 2, 34, 4, 7
abbrev pub live_utility_call : Lent → ℕ → List ℕ → ℕ × List ℕ
live_utility_call l id out =
    handed
    utility_bytes
    (live_call_faults l word_size (length out))
    (live_utility_for_model_of (policy_of l.policy) (input_of l.request) id l.bank)
    out
