-- Numbers with a sign: the difference of two, by their order. Assumes nothing.
use Rattle.rules.proofs.Kit.{◌≡◌, sym, ap, ◌∙◌, ℕ, suc, ◌-◌, ◌≤◌, ◌<◌, arith, pos, neg_ℤ, ◌-ℤ◌}
use Rattle.rules.proofs.Integers.{sub_is, sub_above, sub-below}

pub less_above : (a b n : ℕ) → b ≤ a → n ≡ a - b → pos n ≡ pos a -ℤ pos b
less_above a b n h e = ap pos e ∙ sym (sub_above a b h) ∙ sym (sub_is a b)

pub less_below : (a b n : ℕ) → a < b → n ≡ b - a → neg_ℤ (pos n) ≡ pos a -ℤ pos b
less_below a b n h e = ap (λ k. neg_ℤ (pos k)) {x = n} {y = suc (b - suc a)} (omega arith) ∙ sym (sub-below a b h) ∙ sym (sub_is a b)
