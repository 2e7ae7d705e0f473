-- What a turn reads stands right after what was done, so it is taken as one with it. Assumes nothing.
use Rattle.std.proofs.Common.{◌≡◌, ℕ, ◌+◌, ◌≤◌, List, ◌++◌, rules, length, take, sym, ap, subst, ◌∙◌, length-take-le}
use Rattle.std.specs.Io.KnownBytes.{Consumes}
use Rattle.std.proofs.KnownBytes.{Consumes-trans}
use lib.Seq.{take-append-add, take-append-le}
use Rattle.program_streams.proofs.read_full.Goals as goal

-- n bytes more of a front that others follow
grown : (done n : ℕ) (xs ys rest : List ℕ) → done ≤ length xs → n ≤ length ys → take (done + n) (take done xs ++ (ys ++ rest)) ≡ take done xs ++ take n ys
grown done n xs ys rest within fits =
    let front = take done xs in
    ap (λ (k : ℕ). take (k + n) (front ++ (ys ++ rest))) (sym (length-take-le done xs within))
    ∙ take-append-add front (ys ++ rest) n
    ∙ ap (λ l. front ++ l) (take-append-le n ys rest fits)

pub loop-done-preserved : goal.loop-done-preserved
loop-done-preserved g c =
    let before = c.loop-done.invariant in
    let turn = c.in_ok-n.ensures in
    record {
      within = search rules;
      kept = search rules;
      taken = subst (Consumes _ _) (sym (grown _ _ _ _ _ before.within turn.bound.0)) (Consumes-trans _ _ _ _ _ before.taken turn.bytes.0);
    }
