-- A scan with 47 bytes in the stead of a record: three parts, one after the other. Assumes nothing.
use Rattle.rules.proofs.Kit.{ℕ, ◌+◌, ◌-◌, ◌*◌, arith, ◌≡◌, refl, ap, ◌∙◌, List, length, take, drop, set, length-drop, length-take-le, take_all}
use Rattle.rules.specs.{Records.listed, Records.listed_of, Records.model_of, Count.counts_from, Count.counts_of, Count.total}
use Rattle.rules.specs.{declared.records.KernelInput.KernelInput}
use Rattle.pricing.specs.declared.Pricing.{Pricing}
use Rattle.kernel_ranking.specs.{State.state_of, State.start_of, After.scan_of, declared.state.State.State}
use Rattle.kernel_scan.specs.{Scan.Room, Scan.StandsIn, Places.placed_from}
use Rattle.kernel_scan.proofs.Places.{length-placed, placed-set}
use Rattle.kernel_ranking.proofs.Verdicts.{scan-append, scan-sum}

start_none : total start_of.counts + start_of.eligible ≡ 0
unfolding state_of counts_of counts_from
start_none = refl

-- the parts before and after the place, as the code lends them
abbrev pub before : List ℕ → ℕ → List ℕ
before bank place = take (47 * place) bank

abbrev pub after : List ℕ → ℕ → List ℕ
after bank place = take (length bank - (47 * place + 47)) (drop (47 * place + 47) bank)

module _ (bank : List ℕ) (place : ℕ) (stand : List ℕ) (fits : StandsIn (length bank) place (length stand)) where
  before-length : length (before bank place) ≡ 47 * place
  before-length = length-take-le (47 * place) bank (omega arith)

  after_is : after bank place ≡ drop (47 * place + 47) bank
  after_is = take_all (length bank - (47 * place + 47)) (drop (47 * place + 47) bank) (rw length-drop (omega arith))

  after_length : length (after bank place) ≡ length bank - (47 * place + 47)
  after_length = ap length after_is ∙ length-drop (47 * place + 47) bank

  module _ (pr : Pricing) (q : KernelInput) {s₀ : State} (e₀ : s₀ ≡ start_of) where
    pub room-before : Room (length (before bank place)) 0 s₀
    room-before =
        let z : total s₀.counts + s₀.eligible ≡ 0 = rw e₀ start_none in
        rw before-length (record { places = omega arith; counts = omega arith })

    module _ {s₁ : State} (e₁ : s₁ ≡ scan_of pr q s₀ (placed_from 0 (before bank place))) where
      sum-before : total s₁.counts + s₁.eligible ≡ place
      sum-before =
          let z : total s₀.counts + s₀.eligible ≡ 0 = rw e₀ start_none in
          let n : length (placed_from 0 (before bank place)) ≡ place = length-placed 0 (before bank place) ∙ rw before-length (omega arith) in
          rw e₁ (scan-sum pr q s₀ (placed_from 0 (before bank place)) ∙ omega arith)

      pub room-here : Room (length stand) place s₁
      room-here = rw fits.one (record { places = omega arith; counts = omega (arith, sum-before) })

      module _ {s₂ : State} (e₂ : s₂ ≡ scan_of pr q s₁ (placed_from place stand)) where
        sum-here : total s₂.counts + s₂.eligible ≡ place + 1
        sum-here =
            let n : length (placed_from place stand) ≡ 1 = length-placed place stand ∙ rw fits.one refl in
            rw e₂ (scan-sum pr q s₁ (placed_from place stand) ∙ omega (arith, sum-before))

        pub room_after : Room (length (after bank place)) (place + 1) s₂
        room_after = rw after_length (record { places = omega arith; counts = omega (arith, sum-here) })

        -- THREE PARTS ARE THE BANK WITH THE OTHER RECORD
        pub parts-scan : {s₃ : State} → s₃ ≡ scan_of pr q s₂ (placed_from (place + 1) (after bank place))
            → s₃ ≡ scan_of pr q start_of (set (listed_of bank) place (listed place (model_of stand)))
        parts-scan e₃ =
            rw (e₃, e₂, e₁, e₀, after_is, placed-set bank place fits.inside stand fits.one, scan-append, scan-append)
