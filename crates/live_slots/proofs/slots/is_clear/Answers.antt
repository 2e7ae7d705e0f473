-- `live_slots::is_clear` meets its contract: a part that says anything but 0 is not blank, and six that say 0 are the whole slot. Assumes nothing.
use Rattle.rules.proofs.Kit.{arith}
use Rattle.live_slots.proofs.{Clear.front_set, Clear.part_set, Clear.parts_clear}
use Rattle.live_slots.proofs.slots.is_clear.Goals as goal

pub returns-then-u64_at-ne0 : goal.returns-then-u64_at-ne0
returns-then-u64_at-ne0 c =
    let a = c.args in
    front_set a.bank.now a.place c.u64_at.ensures c.if-u64_at-ne0.true

pub returns-then-u64_at-ne0-2 : goal.returns-then-u64_at-ne0-2
returns-then-u64_at-ne0-2 c =
    let a = c.args in
    part_set a.bank.now a.place 8 (omega arith) c.u64_at-2.ensures c.if-u64_at-ne0-2.true

pub returns-then-u64_at-ne0-3 : goal.returns-then-u64_at-ne0-3
returns-then-u64_at-ne0-3 c =
    let a = c.args in
    part_set a.bank.now a.place 16 (omega arith) c.u64_at-3.ensures c.if-u64_at-ne0-3.true

pub returns-then-u64_at-ne0-4 : goal.returns-then-u64_at-ne0-4
returns-then-u64_at-ne0-4 c =
    let a = c.args in
    part_set a.bank.now a.place 24 (omega arith) c.u64_at-4.ensures c.if-u64_at-ne0-4.true

pub returns-then-u64_at-ne0-5 : goal.returns-then-u64_at-ne0-5
returns-then-u64_at-ne0-5 c =
    let a = c.args in
    part_set a.bank.now a.place 32 (omega arith) c.u64_at-5.ensures c.if-u64_at-ne0-5.true

pub returns-then-u64_at-ne0-6 : goal.returns-then-u64_at-ne0-6
returns-then-u64_at-ne0-6 c =
    let a = c.args in
    part_set a.bank.now a.place 39 (omega arith) c.u64_at-6.ensures c.if-u64_at-ne0-6.true

pub returns : goal.returns
returns c =
    let e = c.before.before in
    let d = e.before.before in
    let b = d.before.before in
    let a = b.before.before in
    let z = a.before.before in
    parts_clear _ _ z.requires z.u64_at.ensures a.u64_at-2.ensures b.u64_at-3.ensures
    d.u64_at-4.ensures e.u64_at-5.ensures c.u64_at-6.ensures z.if-u64_at-ne0.false a.if-u64_at-ne0-2.false b.if-u64_at-ne0-3.false d.if-u64_at-ne0-4.false
    e.if-u64_at-ne0-5.false c.if-u64_at-ne0-6.false
