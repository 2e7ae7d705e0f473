-- `program_phrases::put_about` meets its contract. Assumes nothing.
use Rattle.rules.proofs.Kit.{arith}
use Rattle.rules.specs.Phrases.{about}
use Rattle.splice.proofs.Pieces.{written_then, written, promised}
use Rattle.program_phrases.proofs.put_about.Goals as goal

pub returns : goal.returns
unfolding about
returns c =
    let p = written _ _ _ c.put_text-number.ensures.out_after in
    let q = c.put_number-next.ensures in
    let r = written _ _ _ c.put_text.ensures.out_after in
    record { out_after = promised (written_then (written_then p (written _ _ _ q.out_after)) r); upper_bound = omega (arith, p.ends, q.upper_bound, r.ends) }
