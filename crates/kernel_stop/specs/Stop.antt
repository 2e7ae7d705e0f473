-- What stops a request, in document 01's numbers.
use Rattle.std.specs.Prelude.{ℕ, Option, Some, None}
use Rattle.rules.specs.Numbers.{reason_no}
use Rattle.rules.specs.declared.decision.KernelReason.{KernelReason}

-- D1, D2. 0 where nothing does
unfoldable pub told_stop : Option KernelReason → ℕ
told_stop None = 0
told_stop (Some reason) = reason_no reason
