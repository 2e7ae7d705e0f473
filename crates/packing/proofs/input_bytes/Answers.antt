-- `packing::input_bytes` meets its contract: the value's bits are its field's. Assumes nothing.
use Rattle.std.proofs.Common.{rules, ◌≡◌, of_z, w64}
use Rattle.packing.proofs.input_bytes.Goals as goal

pub returns : goal.returns
returns c =
    let bits : c.signed_bits.result ≡ of_z w64 c.args.q.business_value_microunits = search rules in
    rw bits at c.put_packed.ensures
