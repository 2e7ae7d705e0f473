-- `program_phrases::put_comparing` meets its contract. Assumes nothing.
use Rattle.rules.proofs.Kit.{arith}
use Rattle.rules.specs.Phrases.{about, comparing}
use Rattle.splice.proofs.Pieces.{written_then, written, promised}
use Rattle.program_phrases.proofs.put_comparing.Goals as goal

pub returns : goal.returns
unfolding comparing about
returns c =
    let p = c.put_about-next.ensures in
    let q = c.put_number-end.ensures in
    let r = written _ _ _ c.put_text.ensures.out_after in
    record { out_after = promised (written_then (written_then (written _ _ _ p.out_after) (written _ _ _ q.out_after)) r); upper_bound = omega (arith, p.upper_bound, q.upper_bound, r.ends) }
