-- What refuses a batch's requests, from place to place. Assumes nothing.
use Rattle.rules.proofs.Kit.{ℕ, ◌+◌, ◌<◌, ◌≤◌, add-one, ◌≡◌, ap, ◌∙◌, List, [], ◌++◌, length, drop, get_or, drop_of_length-le, drop-cons}
use Rattle.rules.specs.{Decide.request_faults, Batch.requests_faults, declared.records.KernelInput.KernelInput}

module _ (qs : List KernelInput) (i : ℕ) where
  -- past the last request there is none
  pub bad-none : length qs ≤ i → requests_faults i (drop i qs) ≡ []
  unfolding requests_faults
  bad-none h = ap (requests_faults i) (drop_of_length-le qs h)

  -- the request at a place, and then the next ones
  pub bad-here : (d : KernelInput) → i < length qs
      → requests_faults i (drop i qs) ≡ request_faults (get_or qs i d) i ++ requests_faults (i + 1) (drop (i + 1) qs)
  unfolding requests_faults
  bad-here d inside = rw (drop-cons qs i d inside, add-one i)

  -- where that is not refused, those alone
  pub bad-next : (d : KernelInput) → i < length qs → request_faults (get_or qs i d) i ≡ []
      → requests_faults i (drop i qs) ≡ requests_faults (i + 1) (drop (i + 1) qs)
  bad-next d inside none = bad-here d inside ∙ rw none
