-- `program_lever_lines::put_lever_lines` meets its contract. Assumes nothing.
use Rattle.rules.proofs.Kit.{ap, arith, length-take}
use Rattle.rules.specs.Printed.{lever_lines}
use Rattle.splice.proofs.Pieces.{written_none, written_then, written_as, written, promised_as}
use Rattle.program_lever_lines.proofs.{Joins.levers_none, Joins.levers_more, Joins.levers_shown}
use Rattle.program_lever_lines.proofs.put_lever_lines.Goals as goal

pub loop-lever-init : goal.loop-lever-init
loop-lever-init c = record {
  few = omega (arith, length-take c.min-count.result c.args.levers.levers);
  upper_bound = omega arith;
  lines = written_as (written_none c.args.out.now c.args.at (omega arith)) levers_none;
}

pub loop-lever-preserved : goal.loop-lever-preserved
loop-lever-preserved c =
    let w = c.put_lever_line-next.ensures in record {
      few = c.loop-lever.invariant.few;
      upper_bound = omega (arith, w.upper_bound, c.loop-lever.invariant.upper_bound);
      lines = written_as (written_then c.loop-lever.invariant.lines (written _ _ _ w.out_after)) (levers_more _ _ c.loop-lever.lever-index c.loop-lever-test.true);
    }

pub returns : goal.returns
returns c = record {
  out_after = promised_as c.loop-lever.invariant.lines
      (ap lever_lines (levers_shown c.args.levers.levers c.args.levers.count _ _ (omega (arith, c.well_formed)) c.min-count.ensures c.loop-lever-test.false));
  upper_bound = omega (arith, c.loop-lever.invariant.upper_bound, c.loop-lever.invariant.few);
}
