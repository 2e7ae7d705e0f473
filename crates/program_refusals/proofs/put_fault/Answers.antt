-- `program_refusals::put_fault` meets its contract. Assumes nothing.
use Rattle.rules.proofs.Kit.{arith}
use Rattle.rules.specs.{Choice.equal, Text.text, NotChosen.of_model, FaultWords.fault_words}
use Rattle.splice.proofs.Pieces.{written, promised_as}
use Rattle.program_refusals.proofs.{Joins.told_as, Joins.others}
use Rattle.program_refusals.proofs.put_fault.Goals as goal

pub returns-in-UnknownModel-clause-out_after : goal.returns-in-UnknownModel-clause-out_after
unfolding fault_words equal of_model text
returns-in-UnknownModel-clause-out_after c =
    promised_as (written _ _ _ (rw c.from.ensures at c.put_remark.ensures.out_after)) (told_as c.in-UnknownModel.is _)

pub returns-in-EmptyCatalog-clause-out_after : goal.returns-in-EmptyCatalog-clause-out_after
unfolding fault_words equal text
returns-in-EmptyCatalog-clause-out_after c =
    let w = c.put_sentence.ensures in
    promised_as (written _ _ _ w.out_after) (told_as c.in-EmptyCatalog.is _)

pub returns-in-DuplicateModelId-clause-out_after : goal.returns-in-DuplicateModelId-clause-out_after
unfolding fault_words equal of_model text
returns-in-DuplicateModelId-clause-out_after c =
    promised_as (written _ _ _ (rw c.from-in-DuplicateModelId.ensures at c.put_remark-in-DuplicateModelId.ensures.out_after)) (told_as c.in-DuplicateModelId.is _)

pub returns-in-NoEnabledModels-clause-out_after : goal.returns-in-NoEnabledModels-clause-out_after
unfolding fault_words equal text
returns-in-NoEnabledModels-clause-out_after c =
    let w = c.put_sentence-in-NoEnabledModels.ensures in
    promised_as (written _ _ _ w.out_after) (told_as c.in-NoEnabledModels.is _)

pub returns-in_default : goal.returns-in_default
returns-in_default c =
    let d = c.in_default in
    record {
      out_after = promised_as (written _ _ _ c.put_form_fault.ensures.out_after)
          (others _ c.args.refusal d.not-InputOutOfRange d.not-UnknownModel d.not-PolicyOutOfRange d.not-EmptyCatalog d.not-DuplicateModelId d.not-InvalidProviderId
          d.not-ModelOutOfRange d.not-NoEnabledModels);
      upper_bound = omega (arith, c.put_form_fault.ensures.upper_bound);
    }
