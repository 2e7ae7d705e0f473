-- `program_words::ask_words` meets its contract. Assumes nothing.
use Rattle.rules.proofs.Kit.{ℕ, ap, ◌∙◌, List, arith, length}
use Rattle.rules.specs.Printed.{print_of, print_buffer}
use Rattle.splice.proofs.Pieces.{written_front, written}
use Rattle.program_words.proofs.ask_words.Goals as goal

pub slice_bounds-space-end : goal.slice_bounds-space-end
slice_bounds-space-end c =
    let w = written _ _ _ c.put_answer-end.ensures in
    omega (arith, w.ends, w.room, c.put_answer-end.auto.out)

pub slice_bounds-deliver-end : goal.slice_bounds-deliver-end
slice_bounds-deliver-end c =
    let w = written _ _ _ c.put_answer-end.ensures in
    omega (arith, ap length (written_front w), w.ends)

pub returns : goal.returns
returns c =
    let d = c.deliver.ensures in
    let w = written _ _ _ c.put_answer-end.ensures in
    let f = written_front w in
    let out = c.args.out.now in
    (d.0 ∙ ap (λ (t : List ℕ). print_of t (length out)) f, d.1 ∙ ap (λ (t : List ℕ). print_buffer t out) f, omega (arith, w.room))
