-- `program_words::verdict_on` meets its contract. Assumes nothing.
use Rattle.rules.proofs.Kit.{ap, ◌∙◌}
use Rattle.pricing.specs.declared.Pricing.{Pricing}
use Rattle.kernel_verdict.specs.Verdict.{verdict_in}
use Rattle.explain_entries.specs.Scanned.{scanned}
use Rattle.explain_entries.proofs.Verdicts.{verdict-scanned}
use Rattle.program_words.proofs.verdict_on.Goals as goal

pub returns : goal.returns
returns c =
    let a = c.args in
    c.verdict_alone.ensures
    ∙ ap (λ (pr : Pricing). scanned a.input a.model (verdict_in pr a.input a.model)) c.pricing_for.ensures.0
    ∙ verdict-scanned a.policy a.input a.model
