-- `text::put_words` meets its contract. Assumes nothing.
use Rattle.rules.proofs.Kit.{ℕ, ◌≡◌, ap, ◌∙◌, map, arith, length, take, take-length}
use Rattle.rules.specs.Text.{decimal, spaced}
use Rattle.splice.proofs.Pieces.{written_none, written_then, written_as, written, promised_as}
use Rattle.text.proofs.Words.{spaced_none, words_more}
use Rattle.text.proofs.put_words.Goals as goal

pub loop-n-init : goal.loop-n-init
loop-n-init c = record { within = omega arith; done = written_as (written_none _ _ (omega arith)) spaced_none }

pub loop-n-preserved : goal.loop-n-preserved
loop-n-preserved c = record {
  within = omega arith;
  done = written_as (written_then c.loop-n.invariant.done (written _ _ _ c.put_word-next.ensures.out_after)) (words_more _ _ c.loop-n-test.true);
}

pub returns-clause-out_after : goal.returns-clause-out_after
returns-clause-out_after c =
    let e : c.loop-n.n-index ≡ length c.args.ns.now = omega arith in
    promised_as c.loop-n.invariant.done (ap (λ (k : ℕ). spaced (map decimal (take k c.args.ns.now))) e ∙ rw (take-length c.args.ns.now))
