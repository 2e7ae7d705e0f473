-- The Rust's two ways to a cost, which rounds apart, over plain numbers: tokens and a price for each direction. Assumes nothing.
use Rattle.rules.proofs.Kit.{ℕ, min, ◌+◌, ◌*◌, ◌^◌, ◌≤◌, ◌<◌, ◌≡◌, sym, ap, ◌∙◌, true, List, some, bind-eq-some_iff, mod-eq_of_lt, add-le-add, le_trans}
use Rattle.rules.proofs.Kit.{min-eq_right, div-le_self, arith, lit≤}
use Rattle.rules.specs.{Limits.max_u64, Price.billed, declared.records.KernelModel.KernelModel, declared.records.KernelInput.KernelInput}
use Rattle.demands.specs.{Machine.wrapping_mul, Machine.wrapping_add, Machine.saturating_mul, Machine.saturating_add, Paths.max_input_cost}
use Rattle.demands.specs.{Paths.max_output_cost}
use Rattle.demands.specs.{Paths.cost_rounding, Paths.billed_fast, Paths.billed_reference, Paths.highest_dividend, Paths.all_costs_fit}
use Rattle.demands.proofs.Laws.{checked_some, is_some_lem, product_lt}

-- ---- what the test says

dividend_exact : (tokens price n : ℕ) → highest_dividend tokens price ≡ some n → n ≡ tokens * price + cost_rounding
dividend_exact tokens price n e =
    let (k, product, sum) = (bind-eq-some_iff _ _).0 e in
    (checked_some (k + cost_rounding) n sum).1 ∙ ap (λ i. i + cost_rounding) (checked_some (tokens * price) k product).1

-- what is divided at the highest prices adds up to less than 2 ^ 64
pub costs_fit : (ms : List KernelModel) (q : KernelInput) → all_costs_fit ms q ≡ true
    → q.input_tokens * max_input_cost ms + cost_rounding + (q.output_tokens * max_output_cost ms + cost_rounding) < 2 ^ 64
unfolding all_costs_fit
costs_fit ms q h =
    let (s, all) = is_some_lem _ h in
    let (i, input, rest) = (bind-eq-some_iff _ _).0 all in
    let (o, output, sum) = (bind-eq-some_iff _ _).0 rest in
    omega (arith, dividend_exact _ _ i input, dividend_exact _ _ o output, (checked_some (i + o) s sum).0)

-- ---- one direction

module _ (t p : ℕ) where
  billed-le : billed (t * p) ≤ t * p + cost_rounding
  unfolding billed
  billed-le = div-le_self _ _

  billed-fast : t * p + cost_rounding < 2 ^ 64 → billed_fast t p ≡ billed (t * p)
  unfolding billed wrapping_mul wrapping_add
  billed-fast h = let product : t * p < 2 ^ 64 = omega arith in rw (mod-eq_of_lt product, mod-eq_of_lt h)

  billed-small : t < 2 ^ 32 → p < 2 ^ 64 → billed (t * p) ≤ 2 ^ 97
  billed-small a b = omega (arith, billed-le, product_lt 32 64 a b)

  billed-reference : t < 2 ^ 32 → p < 2 ^ 64 → billed_reference t p ≡ billed (t * p)
  unfolding billed saturating_mul saturating_add
  billed-reference a b =
      let sum : t * p + cost_rounding ≤ 2 ^ 97 = omega (arith, product_lt 32 64 a b) in
      let product : t * p ≤ 2 ^ 97 = omega arith in
      let mul : saturating_mul t p ≡ t * p = min-eq_right (le_trans product (lit≤ tt)) in
      let add : saturating_add (t * p) cost_rounding ≡ t * p + cost_rounding = min-eq_right (le_trans sum (lit≤ tt)) in
      rw (mul, add)

-- ---- both

module _ (t p u r : ℕ) where
  -- where what is divided adds up to less than 2 ^ 64
  pub sum-fast : t * p + cost_rounding + (u * r + cost_rounding) < 2 ^ 64
      → wrapping_add (billed_fast t p) (billed_fast u r) ≡ min max_u64 (billed (t * p) + billed (u * r))
  unfolding wrapping_add
  sum-fast h =
      let sum : billed (t * p) + billed (u * r) < 2 ^ 64 = omega (arith, billed-le t p, billed-le u r) in
      rw (billed-fast t p (omega arith), billed-fast u r (omega arith), mod-eq_of_lt sum) (sym (min-eq_right (omega arith)))

  -- where tokens are u32 and prices u64
  pub sum-reference : t < 2 ^ 32 → p < 2 ^ 64 → u < 2 ^ 32 → r < 2 ^ 64
      → saturating_add (billed_reference t p) (billed_reference u r) ≡ billed (t * p) + billed (u * r)
  unfolding saturating_add
  sum-reference a b c d =
      rw (billed-reference t p a b, billed-reference u r c d)
      (min-eq_right (le_trans (add-le-add (billed-small t p a b) (billed-small u r c d)) (lit≤ tt)))
