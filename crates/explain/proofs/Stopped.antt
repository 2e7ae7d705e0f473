-- The explanation of a stopped request, and of one that isn't. Assumes nothing.
use Rattle.rules.proofs.Kit.{◌*◌, ◌<◌, ◌≤◌, false≢true, sym, le_of_eq, ◌≡◌, refl, ap, ◌∙◌, Bool, true, false, cond, List, [], length, length-map, ltb, ℕ}
use Rattle.rules.specs.{Choice.below, Records.Listed, Verdict.judge, Verdict.judged, Decide.stopped_by, Explain.explained, Explain.explanation_of}
use Rattle.rules.specs.{declared.records.KernelInput.KernelInput, declared.records.PolicySnapshot.PolicySnapshot, declared.decision.KernelReason.KernelReason}
use Rattle.rules.proofs.Choices.{below-yes, below-no}
use Rattle.kernel_stop.specs.{Stop.told_stop}
use Rattle.std.specs.Prelude.{Option, Some, None, is_some}
use Rattle.kernel_stop.proofs.Stops.{open_free, by_high}
use Rattle.explain.specs.Entries.{bytes_for}
use Rattle.explain.proofs.Entries.{length-explained}

module _ (p : PolicySnapshot) (q : KernelInput) (o : Option KernelReason) (told : told_stop o ≡ stopped_by p q) where
  stopped : true ≡ is_some o → 0 < stopped_by p q
  stopped e = go o told e
    where
      go : (o : Option KernelReason) → told_stop o ≡ stopped_by p q → true ≡ is_some o → 0 < stopped_by p q
      go (Some r) told e = by_high p q r told
      go None told e = absurd (false≢true (sym e))

  unstopped : false ≡ is_some o → stopped_by p q ≤ 0
  unstopped e = go o told e
    where
      go : (o : Option KernelReason) → told_stop o ≡ stopped_by p q → false ≡ is_some o → stopped_by p q ≤ 0
      go (Some r) told e = absurd (false≢true e)
      go None told e = le_of_eq (open_free p q told)

  -- A STOPPED REQUEST HAS NO ENTRY
  pub stopped-explanation : (ls : List Listed) → true ≡ is_some o → explanation_of p q ls ≡ []
  unfolding explanation_of
  stopped-explanation ls e = below-yes 0 (stopped_by p q) _ _ (stopped e)

  pub stopped-bytes : (many : ℕ) → true ≡ is_some o → bytes_for p q many ≡ 0
  unfolding bytes_for
  stopped-bytes many e = below-yes 0 (stopped_by p q) _ _ (stopped e)

  -- ANY OTHER HAS ONE FOR EVERY RECORD
  pub open-explanation : (ls : List Listed) → false ≡ is_some o → explanation_of p q ls ≡ explained (judged p q ls)
  unfolding explanation_of
  open-explanation ls e = below-no 0 (stopped_by p q) _ _ (unstopped e)

  pub open-bytes : (many : ℕ) → false ≡ is_some o → bytes_for p q many ≡ 72 * many
  unfolding bytes_for
  open-bytes many e = below-no 0 (stopped_by p q) _ _ (unstopped e)

-- SO MANY BYTES AS ITS RECORDS ASK FOR
module _ (p : PolicySnapshot) (q : KernelInput) (ls : List Listed) where
  pub length-judged : length (explained (judged p q ls)) ≡ 72 * length ls
  length-judged = length-explained (judged p q ls) ∙ ap (λ (n : ℕ). 72 * n) (length-map ls (judge p q))

  pub explanation-bytes : length (explanation_of p q ls) ≡ bytes_for p q (length ls)
  unfolding explanation_of bytes_for below
  explanation-bytes = either (ltb 0 (stopped_by p q))
    where
      either : (b : Bool) → length (cond b [] (explained (judged p q ls))) ≡ cond b 0 (72 * length ls)
      either true = refl
      either false = length-judged
