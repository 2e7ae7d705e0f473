-- `program_sentences::put_fall_start` meets its contract. Assumes nothing.
use Rattle.rules.proofs.Kit.{ap, ℕ, ◌++◌, arith}
use Rattle.rules.specs.{Text.text, Phrases.percent}
use Rattle.splice.proofs.Pieces.{written_then, written, promised_as}
use Rattle.program_sentences.specs.Parts.{fall_up, fall_start}
use Rattle.program_sentences.proofs.put_fall_start.Goals as goal

pub returns : goal.returns
unfolding fall_start text
returns c =
    let s = written _ _ _ c.put_text.ensures.out_after in
    let r = c.put_percent-end.ensures in
    let q = written _ _ _ c.put_text-share.ensures.out_after in
    let p = c.put_percent-exact.ensures in
    let o = c.put_fall_up-next.ensures in
    let boundary = c.args.boundary in record {
      out_after = promised_as (written_then (written_then (written_then (written_then (written _ _ _ o.out_after) (written _ _ _ p.out_after)) q) (written _ _ _ r.out_after)) s)
          (ap (λ (n : ℕ). fall_up boundary ++ percent n ++ text ", to " ++ percent boundary ++ text " of today's") c.saturating_sub.ensures);
      upper_bound = omega (arith, o.upper_bound, p.upper_bound, q.ends, r.upper_bound, s.ends);
    }
