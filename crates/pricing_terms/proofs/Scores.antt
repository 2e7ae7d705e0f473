-- Scores and the integers that they stand for. Assumes nothing.
use Rattle.rules.proofs.Kit.{◌≡◌, sym, ap, ap₂, ◌∙◌, true, false, ℕ, suc, ◌+◌, ◌-◌, ◌%◌, ◌^◌, ◌≤◌, ◌<◌, le_of_suc-le-suc, lt_of_not-le, dec_lt, arith}
use Rattle.rules.proofs.Kit.{lt-ltb, le-ltb, le-leb, lt-leb, ltb-true, ltb-false, ltb, leb, ℤ, pos, negsuc, neg_ℤ, nat_abs, sub_ℕ, ◌+ℤ◌, ◌-ℤ◌, +ℤ_assoc}
use Rattle.rules.proofs.Kit.{neg_ℤ-+ℤ, lt_z, le_z, w64, to_z}
use mir.Facts.{to_z_pos, to_z-neg}
use Rattle.limbs.proofs.Limbs.{decides}
use Rattle.rules.proofs.Integers.{sub_is, sub_above, sub-below}
use Rattle.rules.specs.{Utility.held, Wide.val, Wide.val_z, Wide.signed, declared.wide.SignedWide.SignedWide}
use Rattle.pricing_terms.specs.Score.{unscored, scored, score_of}

le_of : {a b : ℕ} → ¬ (a < b) → b ≤ a
le_of n = le_of_suc-le-suc (lt_of_not-le n)

-- a score below that of 0 stands for a negative number, and else for none
pub unscored-below : (s : ℕ) → s < 2 ^ 63 → unscored s ≡ negsuc (2 ^ 63 - suc s)
unfolding unscored
unscored-below s h = sub-below s (2 ^ 63) h

pub unscored_above : (s : ℕ) → 2 ^ 63 ≤ s → unscored s ≡ pos (s - 2 ^ 63)
unfolding unscored
unscored_above s h = sub_above s (2 ^ 63) h

-- ---- what a score stands for

stands : (g l : ℕ) → Dec (g < l) → unscored (score_of g l) ≡ held (sub_ℕ g l)
unfolding score_of
stands g l (yes h) = unscored-below (score_of g l) (omega arith) ∙ ap negsuc (omega arith) ∙ sym (ap held (sub-below g l h))
stands g l (no n) =
    let h = le_of n in
    unscored_above (score_of g l) (omega arith) ∙ ap pos (omega arith) ∙ sym (ap held (sub_above g l h))

-- the score of a gain and a loss stands for their difference, held within i64
pub score_stands : (g l : ℕ) → unscored (score_of g l) ≡ held (sub_ℕ g l)
score_stands g l = stands g l (dec_lt g l)

back : (s : ℕ) → Dec (s < 2 ^ 63) → scored (unscored s) ≡ s
unfolding scored
back s (yes h) = ap scored (unscored-below s h) ∙ omega arith
back s (no n) = let h = le_of n in ap scored (unscored_above s h) ∙ omega arith

-- a score is the score of what it stands for
pub scored-unscored : (s : ℕ) → scored (unscored s) ≡ s
scored-unscored s = back s (dec_lt s (2 ^ 63))

-- ---- order

-- two tests that say the same
ltb_agree : (a b x y : ℕ) → (a < b → x < y) → (b ≤ a → y ≤ x) → ltb a b ≡ ltb x y
ltb_agree a b x y f g = decides (ltb a b) x y (λ e. f (ltb-true a b e)) (λ e. g (ltb-false a b e))

ordered : (a b : ℕ) → Dec (a < 2 ^ 63) → Dec (b < 2 ^ 63) → lt_z (unscored a) (unscored b) ≡ ltb a b
ordered a b (yes p) (yes q) =
    ap₂ lt_z (unscored-below a p) (unscored-below b q) ∙ ltb_agree (2 ^ 63 - suc b) (2 ^ 63 - suc a) a b (λ h. omega arith) (λ h. omega arith)
ordered a b (yes p) (no q) = ap₂ lt_z (unscored-below a p) (unscored_above b (le_of q)) ∙ sym (lt-ltb a b (omega (arith, le_of q)))
ordered a b (no p) (yes q) = ap₂ lt_z (unscored_above a (le_of p)) (unscored-below b q) ∙ sym (le-ltb a b (omega (arith, le_of p)))
ordered a b (no p) (no q) =
    let h = le_of p in
    let k = le_of q in
    ap₂ lt_z (unscored_above a h) (unscored_above b k) ∙ ltb_agree (a - 2 ^ 63) (b - 2 ^ 63) a b (λ r. omega arith) (λ r. omega arith)

-- scores are in the order of what they stand for
pub score_order : (a b : ℕ) → lt_z (unscored a) (unscored b) ≡ ltb a b
score_order a b = ordered a b (dec_lt a (2 ^ 63)) (dec_lt b (2 ^ 63))

not_above : (s : ℕ) → s ≤ 2 ^ 63 → Dec (s < 2 ^ 63) → le_z (unscored s) (pos 0) ≡ true
not_above s h (yes k) = ap (λ z. le_z z (pos 0)) (unscored-below s k)
not_above s h (no k) = ap (λ z. le_z z (pos 0)) (unscored_above s (le_of k)) ∙ le-leb (s - 2 ^ 63) 0 (omega arith)

positive : (s : ℕ) → Dec (2 ^ 63 < s) → le_z (unscored s) (pos 0) ≡ leb s (2 ^ 63)
positive s (yes h) = ap (λ z. le_z z (pos 0)) (unscored_above s (omega arith)) ∙ lt-leb (s - 2 ^ 63) 0 (omega arith) ∙ sym (lt-leb s (2 ^ 63) h)
positive s (no n) = not_above s (le_of n) (dec_lt s (2 ^ 63)) ∙ sym (le-leb s (2 ^ 63) (le_of n))

-- a utility is not positive where its score is at most that of 0
pub score_positive : (s : ℕ) → le_z (unscored s) (pos 0) ≡ leb s (2 ^ 63)
score_positive s = positive s (dec_lt (2 ^ 63) s)

-- ---- differences of several numbers

-- two numbers taken away are their sum taken away
sub-sum : (a : ℤ) (b c : ℕ) → a -ℤ pos b -ℤ pos c ≡ a -ℤ pos (b + c)
sub-sum a b c = +ℤ_assoc a (neg_ℤ (pos b)) (neg_ℤ (pos c)) ∙ ap (λ z. a +ℤ z) (sym (neg_ℤ-+ℤ (pos b) (pos c)))

-- a gain less three losses is the gain less their sum
pub three_losses : (g a b c : ℕ) → sub_ℕ g (a + (b + c)) ≡ pos g -ℤ pos a -ℤ pos b -ℤ pos c
three_losses g a b c =
    sym (sub_is g (a + (b + c)))
    ∙ ap (λ n. pos g -ℤ pos n) {x = a + (b + c)} {y = a + b + c} (omega arith)
    ∙ sym (sub-sum (pos g) (a + b) c)
    ∙ ap (λ z. z -ℤ pos c) (sym (sub-sum (pos g) a b))

-- the size of a difference that is not negative
pub size_is : (s : SignedWide) (a b : ℕ) → s.negative ≡ false → val_z s ≡ pos a -ℤ pos b → b ≤ a → val s.size ≡ a - b
size_is s a b n e h = ap nat_abs (ap (λ t. signed t (val s.size)) (sym n) ∙ e ∙ sub_is a b ∙ sub_above a b h)

-- ---- the machine's signed numbers

wrapped : (s : ℕ) → s < 2 ^ 64 → Dec (s < 2 ^ 63) → to_z w64 ((s + 2 ^ 63) % 2 ^ 64) ≡ unscored s
wrapped s h (yes k) =
    ap (to_z w64) {x = (s + 2 ^ 63) % 2 ^ 64} {y = 2 ^ 64 - suc (2 ^ 63 - suc s)} (omega arith) ∙ to_z-neg w64 (2 ^ 63 - suc s) (omega arith)
    ∙ sym (unscored-below s k)
wrapped s h (no n) =
    let k = le_of n in
    ap (to_z w64) {x = (s + 2 ^ 63) % 2 ^ 64} {y = s - 2 ^ 63} (omega arith) ∙ to_z_pos w64 (omega arith) ∙ sym (unscored_above s k)

-- a score less that of 0, which wraps below, is the utility's 64 bits
pub score_bits : (s : ℕ) → s < 2 ^ 64 → to_z w64 ((s + 2 ^ 63) % 2 ^ 64) ≡ unscored s
score_bits s h = wrapped s h (dec_lt s (2 ^ 63))
