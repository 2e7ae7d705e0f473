-- `stored::catalog::write_stored` meets its contract. Assumes nothing.
use Rattle.rules.proofs.Kit.{ℕ, ◌≡◌, sym, ap, ◌∙◌, List, ◌++◌, append_assoc, arith, length}
use Rattle.rules.specs.{Refused.first_fault, Stored.field_bytes, Stored.rounding_field, Stored.allowance_field, Stored.optional_fields, Stored.stored_form}
use Rattle.rules.specs.Stored.{write_stored_of, write_stored_buffer}
use Rattle.rules.proofs.Faults.{passed}
use Rattle.packing.proofs.Trips.{length-numbers}
use Rattle.splice.proofs.Pieces.{written_length, written_then, written_as, written}
use Rattle.stored_layout.proofs.Buffers.{fills, exit_stays}
use Rattle.stored.proofs.{Writing.length_field, Writing.length_rounding, Writing.writing_refuses, Writing.writing_room}
use Rattle.stored.proofs.catalog.write_stored.Goals as goal

pub returns-in_err-writing : goal.returns-in_err-writing
unfolding write_stored_of write_stored_buffer
returns-in_err-writing c =
    let a = c.args in
    exit_stays _ _ _ _ _ _ _ c.from_residual.ensures.1 (c.in_err-writing.ensures ∙ ap first_fault (writing_refuses a.policy a.bank.now (length a.out.now)))

pub put_field-next-requires : goal.put_field-next-requires
put_field-next-requires c =
    let a = c.args in
    let room = writing_room a.policy.rounding a.policy.latency_allowance_ms (length a.bank.now) (length a.out.now) (passed _ c.in_ok-writing.ensures) in
    let head : length c.policy_number_bytes.result ≡ 30 = ap length c.policy_number_bytes.ensures ∙ length-numbers a.policy in
    omega (arith, head, room)

pub put_field-after-requires : goal.put_field-after-requires
put_field-after-requires c =
    let a = c.args in
    let room = writing_room a.policy.rounding a.policy.latency_allowance_ms (length a.bank.now) (length a.out.now) (passed _ c.in_ok-writing.ensures) in
    let head : length c.policy_number_bytes.result ≡ 30 = ap length c.policy_number_bytes.ensures ∙ length-numbers a.policy in
    let first = written _ _ _ c.put_field-next.ensures in
    omega (arith, head, room, first.ends, length_field 1 c.policy_number_bytes.result, written_length first)

pub put_rounding-rounded-requires : goal.put_rounding-rounded-requires
put_rounding-rounded-requires c =
    let a = c.args in
    let room = writing_room a.policy.rounding a.policy.latency_allowance_ms (length a.bank.now) (length a.out.now) (passed _ c.in_ok-writing.ensures) in
    let head : length c.policy_number_bytes.result ≡ 30 = ap length c.policy_number_bytes.ensures ∙ length-numbers a.policy in
    let first = written _ _ _ c.put_field-next.ensures in
    let second = written _ _ _ c.put_field-after.ensures in
    omega (
      arith,
      head,
      room,
      first.ends,
      length_field 1 c.policy_number_bytes.result,
      written_length first,
      second.ends,
      length_field 2 a.bank.now,
      written_length second,
    )

pub put_allowance-requires : goal.put_allowance-requires
put_allowance-requires c =
    let a = c.args in
    let room = writing_room a.policy.rounding a.policy.latency_allowance_ms (length a.bank.now) (length a.out.now) (passed _ c.in_ok-writing.ensures) in
    let head : length c.policy_number_bytes.result ≡ 30 = ap length c.policy_number_bytes.ensures ∙ length-numbers a.policy in
    let first = written _ _ _ c.put_field-next.ensures in
    let second = written _ _ _ c.put_field-after.ensures in
    let third = written _ _ _ c.put_rounding-rounded.ensures in
    omega (
      arith,
      head,
      room,
      first.ends,
      length_field 1 c.policy_number_bytes.result,
      written_length first,
      second.ends,
      length_field 2 a.bank.now,
      written_length second,
      third.ends,
      length_rounding a.policy.rounding,
      written_length third,
    )

pub returns : goal.returns
unfolding write_stored_of write_stored_buffer stored_form
returns c =
    let a = c.args in
    let fields = written_then (written _ _ _ c.put_field-next.ensures) (written _ _ _ c.put_field-after.ensures) in
    let all = written_then (written_then fields (written _ _ _ c.put_rounding-rounded.ensures)) (written _ _ _ c.put_allowance.ensures) in
    let head = field_bytes 1 c.policy_number_bytes.result ++ field_bytes 2 a.bank.now in
    fills _ (sym (writing_refuses a.policy a.bank.now (length a.out.now)) ∙ passed _ c.in_ok-writing.ensures)
    (written_as all (
    append_assoc head (rounding_field a.policy.rounding) (allowance_field a.policy.latency_allowance_ms)
    ∙ ap (λ (b : List ℕ). field_bytes 1 b ++ field_bytes 2 a.bank.now ++ optional_fields a.policy) c.policy_number_bytes.ensures
    ))
