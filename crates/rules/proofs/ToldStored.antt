-- What the documents tell of an edit, and of reading and writing a policy, a stored form and a request form, determines the answer, as in `Told`.
-- Assumes nothing.
use Rattle.rules.proofs.Kit.{ℕ, refl}
use Rattle.rules.specs.{Numbers.StoredPolicy, Numbers.told_policy, Numbers.told_stored, Numbers.told_request, Numbers.EditedPolicy}
use Rattle.rules.specs.{Numbers.told_edited, Numbers.told_written, declared.records.PolicySnapshot.PolicySnapshot}
use Rattle.rules.proofs.Told.{one_answer, Determined, answer_from, answer_back}

abbrev pub stored_from : StoredPolicy → PolicySnapshot × ℕ
stored_from s = (s.policy, s.size)

abbrev pub edited_from : EditedPolicy → PolicySnapshot × ℕ
edited_from e = (e.policy, e.number)

pub one_policy : Determined told_policy
one_policy = one_answer told_policy (answer_from (λ p. p)) (answer_back _ (λ p. p) (λ p. refl))

pub one_stored : Determined told_stored
one_stored = one_answer told_stored (answer_from stored_from) (answer_back _ stored_from (λ x. refl))

pub one_edited : Determined told_edited
one_edited = one_answer told_edited (answer_from edited_from) (answer_back _ edited_from (λ x. refl))

pub one_request : Determined told_request
one_request = one_answer told_request (answer_from (λ q. q)) (answer_back _ (λ q. q) (λ q. refl))

pub one_written : Determined told_written
one_written = one_answer told_written (answer_from (λ n. n)) (answer_back _ (λ n. n) (λ n. refl))
