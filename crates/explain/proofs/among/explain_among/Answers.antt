-- `explain::explain_among` meets its contract. Assumes nothing.
use Rattle.rules.proofs.Kit.{ℕ, List, ◌≡◌, refl, sym, ap, ◌∙◌, length}
use Rattle.rules.specs.{Refused.refused, Refused.answered, Explain.explanation_of}
use Rattle.rules.proofs.Faults.{room_short, room_enough, unless_refused, unless_none}
use Rattle.rules.specs.declared.records.KernelInput.{KernelInput}
use Rattle.rules.specs.declared.records.PolicySnapshot.{PolicySnapshot}
use Rattle.live_slots.specs.Among.{among_of, Among}
use Rattle.live_slots.proofs.Among.{read-many}
use Rattle.explain.specs.Entries.{bytes_for}
use Rattle.explain.proofs.{Stopped.explanation-bytes}
use Rattle.explain.proofs.among.explain_among.Goals as goal

-- what is needed is the length of the explanation of those that are read
its-length : {n : ℕ} (p : PolicySnapshot) (q : KernelInput) (many : ℕ) (bank : List ℕ) → Among many bank → n ≡ bytes_for p q many
    → n ≡ length (explanation_of p q (among_of many bank))
its-length p q many bank seen needed =
    needed ∙ ap (bytes_for p q) (sym (read-many many bank seen)) ∙ sym (explanation-bytes p q (among_of many bank))

pub returns-then-list-needed : goal.returns-then-list-needed
returns-then-list-needed c =
    let a = c.args in
    let list = a.list.now in
    let short = room_short _ (length list) (rw (its-length a.policy a.input a.many a.bank.now c.requires c.needed.ensures) at c.if-list-needed.true) in
    record { answer = sym (unless_refused _ refused _ refl short); bytes = sym (unless_refused _ (λ f. list) _ refl short) }

pub put_explanation-requires : goal.put_explanation-requires
put_explanation-requires c =
    let a = c.args in
    (c.requires, rw (its-length a.policy a.input a.many a.bank.now c.requires c.needed.ensures) at c.if-list-needed.false)

pub returns : goal.returns
returns c =
    let a = c.args in
    let list = a.list.now in
    let enough = room_enough _ (length list) (rw (its-length a.policy a.input a.many a.bank.now c.requires c.needed.ensures) at c.if-list-needed.false) in
    record {
      answer = ap answered c.decision_among.ensures ∙ sym (unless_none _ refused _ enough);
      bytes = c.put_explanation.ensures ∙ sym (unless_none _ (λ f. list) _ enough);
    }
