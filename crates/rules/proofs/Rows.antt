-- Rows: a name, what a rule gives, what it is to give, and that the two are the same; and the questions that rows ask, of a bank, a policy
-- and a request in bytes. Assumes nothing.
use Rattle.rules.proofs.Kit.{ℕ, ◌≡◌, ap, List, [], ◌∷◌}
use Prim.Native.String.{String}
use Rattle.rules.specs.{Records.input_of, Records.policy_of, Refused.Answer, Numbers.Decision, Numbers.DecisionAndTrace, Numbers.Boundary}
use Rattle.rules.specs.{Decide.prescribe_traced_of, Explain.explain_of, Explain.explain_list, Win.what_would_win_of, Margin.decision_margin_of}

-- A value under the name of its row, so that the prover tells the name where a row fails; files with rows bring in what stands here, so that it
-- is told in short words
pub data Named (A : Type 0) : Type 0 where
  row : String → A → Named A

abbrev pub value_in : {A : Type 0} → Named A → A
value_in (row name a) = a

-- A row carries its proof, so that a list of rows is one of rows that hold
pub data Row : Type 1 where
  says : (name : String) {A : Type 0} (a b : A) → row name a ≡ row name b → Row

-- The rows of a list as one statement
abbrev pub All : List Row → Type 0
All [] = Unit {0}
All (says name a b same ∷ rs) = (a ≡ b) × All rs

pub all_hold : (rs : List Row) → All rs
all_hold [] = tt
all_hold (says name a b same ∷ rs) = (ap value_in same, all_hold rs)

-- the decision and its counts
abbrev pub decided : List ℕ → List ℕ → List ℕ → Answer DecisionAndTrace
decided b p q = prescribe_traced_of (policy_of p) (input_of q) b

-- the decision, and the caller's list at exit
abbrev pub explained : List ℕ → List ℕ → List ℕ → List ℕ → Answer Decision × List ℕ
explained b p q list = (explain_of (policy_of p) (input_of q) b list, explain_list (policy_of p) (input_of q) b list)

-- the boundaries of a model that isn't chosen, and of the one that is
abbrev pub would_win : List ℕ → List ℕ → List ℕ → ℕ → Boundary
would_win b p q id = what_would_win_of (policy_of p) (input_of q) b id

abbrev pub margin : List ℕ → List ℕ → List ℕ → Boundary
margin b p q = decision_margin_of (policy_of p) (input_of q) b
