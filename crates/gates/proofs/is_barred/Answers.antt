-- `gates::is_barred` meets its contract: in a mask of all ones every provider's bit is set. Assumes nothing.
use Rattle.rules.proofs.Kit.{ℕ, ◌/◌, ◌%◌, ◌^◌, ◌≤◌, ◌≡◌, refl, ap, ◌∙◌, Bool, true, false, not, ◌&&◌, arith, eqb-true, eqb}
use Rattle.std.proofs.lemmas.Nat.Bits.{bit_at_ones}
use Rattle.rules.specs.Limits.{all_ones}
use Rattle.gates.proofs.is_barred.Goals as goal

-- so the test for all ones changes nothing
apart : (mask p : ℕ) → p ≤ 63 → (b : Bool) → eqb mask all_ones ≡ b → eqb (mask / 2 ^ p % 2) 0 ≡ (not b && eqb (mask / 2 ^ p % 2) 0)
apart mask p h true e = ap (λ k. eqb (k / 2 ^ p % 2) 0) (eqb-true mask all_ones e) ∙ ap (λ k. eqb k 0) (bit_at_ones 64 p (omega arith))
apart mask p h false e = refl

pub returns : goal.returns
returns c = apart c.args.input.allowed_provider_mask c.args.model.provider_id c.requires _ refl
