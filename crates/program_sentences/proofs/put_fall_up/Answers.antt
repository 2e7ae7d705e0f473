-- `program_sentences::put_fall_up` meets its contract. Assumes nothing.
use Rattle.rules.proofs.Kit.{ap, ℕ, ◌++◌, arith}
use Rattle.rules.specs.{Text.text, Phrases.percent_up}
use Rattle.splice.proofs.Pieces.{written_then, written, promised_as}
use Rattle.program_sentences.specs.Parts.{fall_up}
use Rattle.program_sentences.proofs.put_fall_up.Goals as goal

pub returns : goal.returns
unfolding fall_up text
returns c =
    let p = written _ _ _ c.put_text-named.ensures.out_after in
    let q = c.put_percent_up-told.ensures in
    let r = written _ _ _ c.put_text.ensures.out_after in record {
      out_after = promised_as (written_then (written_then p (written _ _ _ q.out_after)) r)
          (ap (λ (n : ℕ). text "Price alone: it must fall by " ++ percent_up n ++ text " or more; exactly, by ") c.saturating_sub.ensures);
      upper_bound = omega (arith, p.ends, q.upper_bound, r.ends);
    }
