-- `explain::put_explanation` meets its contract. Assumes nothing.
use Rattle.rules.proofs.Kit.{sym, ap, ◌∙◌, List, arith, ℕ, length}
use Rattle.rules.specs.Bytes.{filled}
use Rattle.live_slots.specs.Among.{among_of}
use Rattle.live_slots.proofs.Among.{read-many}
use Rattle.explain.proofs.{Stopped.stopped-explanation, Stopped.open-explanation, Stopped.length-judged}
use Rattle.explain.proofs.list.put_explanation.Goals as goal

pub returns-then-is_some : goal.returns-then-is_some
unfolding filled
returns-then-is_some c =
    let a = c.args in
    sym (ap (λ (new : List ℕ). filled new a.list.now) (stopped-explanation _ _ _ c.stopped_by.ensures _ c.if-is_some.ensures))

pub put_entries-requires : goal.put_entries-requires
put_entries-requires c =
    let a = c.args in
    let read = among_of a.many a.bank.now in
    let all = open-explanation _ _ _ c.stopped_by.ensures read c.if-is_some.ensures in
    (c.requires.0, omega (arith, c.requires.1, ap length all ∙ length-judged a.policy a.input read, read-many _ _ c.requires.0))

pub returns : goal.returns
returns c =
    let a = c.args in
    c.put_entries.ensures
    ∙ sym (ap (λ (new : List ℕ). filled new a.list.now) (open-explanation _ _ _ c.stopped_by.ensures _ c.if-is_some.ensures))
