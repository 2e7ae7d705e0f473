-- `stored_layout::put_field` meets its contract. Assumes nothing.
use Rattle.rules.proofs.Kit.{ℕ, ◌≡◌, ◌/◌, ◌%◌, arith, length}
use Rattle.rules.specs.{Bytes.bytes_of, Stored.field_bytes}
use Rattle.splice.proofs.Pieces.{written_one, written_then, promised_as}
use Rattle.stored_layout.proofs.put_field.Goals as goal

-- the two bytes that say a length, as the library writes them
low : (n : ℕ) → n % 65536 % 256 ≡ n % 256
low n = omega arith

high : (n : ℕ) → n % 65536 / 256 % 256 ≡ n / 256 % 256
high n = omega arith

pub returns : goal.returns
unfolding field_bytes bytes_of
returns c =
    let body = c.args.body.now in
    promised_as (written_then (written_one _ _ (omega arith) c.put_bytes.ensures) (written_one _ _ (omega arith) c.put_bytes-2.ensures))
    (rw (c.to_le_bytes.ensures, low (length body), high (length body)))
