-- What noting a lever adds to a room, and four levers noted one after the other. Assumes nothing.
use Rattle.rules.proofs.Kit.{ℕ, ◌+◌, ◌≤◌, arith, ◌≡◌, refl, ap, ◌∙◌, length, map}
use Rattle.rules.specs.{Levers.Question, Levers.plain, Levers.priced, declared.records.KernelModel.KernelModel, declared.boundary.Bound.Bound}
use Rattle.rules.specs.{Halving.passes_of, Levers.at_boundary, Levers.entry, Limits.ppm, Numbers.Entry}
use Rattle.std.specs.Prelude.{Option, Some, None, option_to_list}
use Rattle.std.proofs.Math.Option.{none, some}
use Rattle.counterfactual_answer.specs.Levers.{LeverRooms, empty_room, rooms_joined, room_of, cost_at, priced_by, four_sought}
use Rattle.counterfactual_answer.proofs.Rooms.{joined_passes, four_joined}

-- ---- at most one entry

few : (told : ℕ → Entry) (found : Bound) → length (at_boundary told found) ≤ 1
few told found = elim found.boundary as (λ o. length (map told (option_to_list o)) ≤ 1) [ None ↦ omega arith | Some b ↦ omega arith ]

-- ---- the passes

pub note_passes : {u : LeverRooms} (t : LeverRooms) (lever current : ℕ) (r : Bound) → u ≡ rooms_joined t (plain lever current r)
    → u.passes ≡ t.passes + passes_of r
note_passes t lever current r e = joined_passes t (plain lever current r) e

pub price_passes : {u : LeverRooms} (t : LeverRooms) (cost : ℕ) (r : Bound) → u ≡ rooms_joined t (priced_by cost r) → u.passes ≤ t.passes + passes_of r + 1
price_passes t cost r e = omega (arith, joined_passes t (priced_by cost r) e, few (λ b. entry 3 ppm b (some cost)) r)

-- FOUR LEVERS, EACH FROM WHAT ITS NOTE ENSURES
pub four_noted : (m : KernelModel) (cost : ℕ) {t u₁ u₂ u₃ u₄ : LeverRooms} (r₁ r₂ r₃ r₄ : Bound)
    → t ≡ empty_room 1
    → u₁ ≡ rooms_joined t (plain 1 m.quality_bps r₁)
    → u₂ ≡ rooms_joined u₁ (plain 2 m.p95_latency_ms r₂)
    → u₃ ≡ rooms_joined u₂ (priced_by cost r₃)
    → u₄ ≡ rooms_joined u₃ (plain 4 m.risk_ceiling_bps r₄)
    → u₄ ≡ room_of (four_sought m r₁ r₂ (priced_by cost r₃) r₄)
unfolding room_of
four_noted m cost r₁ r₂ r₃ r₄ e e₁ e₂ e₃ e₄ =
    let quality = plain 1 m.quality_bps r₁ in
    let latency = plain 2 m.p95_latency_ms r₂ in
    let ceiling = plain 4 m.risk_ceiling_bps r₄ in
    e₄
    ∙ ap (λ t. rooms_joined t ceiling)
    (e₃ ∙ ap (λ t. rooms_joined t (priced_by cost r₃)) (e₂ ∙ ap (λ t. rooms_joined t latency) (e₁ ∙ ap (λ t. rooms_joined t quality) e)))
    ∙ four_joined quality latency (priced_by cost r₃) ceiling
    (few (λ b. entry 1 m.quality_bps b none) r₁)
    (few (λ b. entry 2 m.p95_latency_ms b none) r₂)
    (few (λ b. entry 3 ppm b (some cost)) r₃)
    (few (λ b. entry 4 m.risk_ceiling_bps b none) r₄)

-- ---- the price with its cost

priced_at : (a : Question) (r : Bound) → priced_by (cost_at a r) r ≡ priced a r
priced_at a r = go r.boundary r.passes
  where
    go : (o : Option ℕ) (n : ℕ) → (let r : Bound = record { boundary = o; passes = n } in priced_by (cost_at a r) r ≡ priced a r)
    go None n = refl
    go (Some b) n = refl

-- WHAT FOUR SEARCHES FOUND, WITH THE COST AT THE PRICE'S BOUNDARY
pub four_sought_lem : (a : Question) {cost : ℕ} {t : LeverRooms} {r₁ r₂ r₃ r₄ s₁ s₂ s₃ s₄ : Bound} → t ≡ room_of (four_sought a.model r₁ r₂ (priced_by cost r₃) r₄)
    → cost ≡ cost_at a r₃
    → r₁ ≡ s₁ → r₂ ≡ s₂ → r₃ ≡ s₃ → r₄ ≡ s₄ → t ≡ room_of (four_sought a.model s₁ s₂ (priced a s₃) s₄)
four_sought_lem a {r₃ = r₃} e c e₁ e₂ e₃ e₄ =
    e ∙ (λ i. room_of (four_sought a.model (e₁ i) (e₂ i) ((ap (λ n. priced_by n r₃) c ∙ priced_at a r₃ ∙ ap (priced a) e₃) i) (e₄ i)))
