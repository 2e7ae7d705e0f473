-- Document 01's example in literal bytes, and short names for the answers that its rows tell. Assumes nothing.
use Rattle.rules.proofs.Kit.{ℕ, ◌+◌, Bool, List, [], ◌∷◌, ◌++◌, Option, none, ℤ, pos, length, take, drop, replicate}
use Rattle.rules.specs.{Refused.no_fault, Refused.Answer, Refused.answered, Numbers.Decision, Numbers.DecisionAndTrace, Numbers.Entry, Numbers.Boundary}
use Rattle.rules.specs.{declared.decision.RejectionHistogram.RejectionHistogram}

-- the two models, the policy and the request
abbrev pub model_one : List ℕ
model_one =
    1 ∷ 0 ∷ 0 ∷ 0 ∷ 0 ∷ 0 ∷ 40 ∷ 35 ∷ 64 ∷ 31 ∷ 1 ∷ 100 ∷ 0 ∷ 0 ∷ 0 ∷ 3
    ∷ 0 ∷ 0 ∷ 0 ∷ 0 ∷ 0 ∷ 0 ∷ 0 ∷ 1 ∷ 0 ∷ 0 ∷ 0 ∷ 0 ∷ 0 ∷ 0 ∷ 0 ∷ 192
    ∷ 198 ∷ 45 ∷ 0 ∷ 0 ∷ 0 ∷ 0 ∷ 0 ∷ 192 ∷ 225 ∷ 228 ∷ 0 ∷ 0 ∷ 0 ∷ 0 ∷ 0 ∷ []

abbrev pub model_two : List ℕ
model_two =
    2 ∷ 0 ∷ 0 ∷ 0 ∷ 1 ∷ 0 ∷ 64 ∷ 31 ∷ 64 ∷ 31 ∷ 1 ∷ 50 ∷ 0 ∷ 0 ∷ 0 ∷ 1
    ∷ 0 ∷ 0 ∷ 0 ∷ 0 ∷ 0 ∷ 0 ∷ 0 ∷ 1 ∷ 0 ∷ 0 ∷ 0 ∷ 0 ∷ 0 ∷ 0 ∷ 0 ∷ 64
    ∷ 66 ∷ 15 ∷ 0 ∷ 0 ∷ 0 ∷ 0 ∷ 0 ∷ 128 ∷ 132 ∷ 30 ∷ 0 ∷ 0 ∷ 0 ∷ 0 ∷ 0 ∷ []

abbrev pub bank : List ℕ
bank = model_one ++ model_two

abbrev pub policy : List ℕ
policy =
    7 ∷ 0 ∷ 0 ∷ 0 ∷ 0 ∷ 0 ∷ 0 ∷ 0 ∷ 3 ∷ 0 ∷ 0 ∷ 0 ∷ 0 ∷ 0 ∷ 0 ∷ 0
    ∷ 40 ∷ 35 ∷ 208 ∷ 7 ∷ 16 ∷ 39 ∷ 10 ∷ 0 ∷ 0 ∷ 0 ∷ 0 ∷ 0 ∷ 0 ∷ 0 ∷ []

abbrev pub request : List ℕ
request =
    42 ∷ 0 ∷ 0 ∷ 0 ∷ 0 ∷ 0 ∷ 0 ∷ 0 ∷ 1 ∷ 0 ∷ 0 ∷ 0 ∷ 100 ∷ 0 ∷ 0 ∷ 0
    ∷ 100 ∷ 0 ∷ 0 ∷ 0 ∷ 16 ∷ 39 ∷ 0 ∷ 0 ∷ 0 ∷ 0 ∷ 0 ∷ 0 ∷ 136 ∷ 19 ∷ 0 ∷ 0
    ∷ 0 ∷ 0 ∷ 0 ∷ 0 ∷ 232 ∷ 3 ∷ 16 ∷ 39 ∷ 136 ∷ 19 ∷ 0 ∷ 0 ∷ 0 ∷ 0 ∷ 1 ∷ 0
    ∷ 0 ∷ 0 ∷ 0 ∷ 0 ∷ 0 ∷ 0 ∷ 255 ∷ 255 ∷ 255 ∷ 255 ∷ 255 ∷ 255 ∷ 255 ∷ 255 ∷ 0 ∷ 0
    ∷ 0 ∷ 0 ∷ 0 ∷ 0 ∷ 0 ∷ 0 ∷ []

-- bytes with others from an offset on
abbrev pub with : ℕ → List ℕ → List ℕ → List ℕ
with at bytes s = take at s ++ bytes ++ drop (at + length bytes) s

-- a record with another id
abbrev pub named : ℕ → List ℕ → List ℕ
named id s = with 0 (id ∷ []) s

-- the bank with one byte too many
abbrev pub uneven : List ℕ
uneven = bank ++ (0 ∷ [])

-- the request with risk 9,000, with confidence 1,999, and with a value of -1
abbrev pub at_hard_limit : List ℕ
at_hard_limit = with 36 (40 ∷ 35 ∷ []) request

abbrev pub unsure : List ℕ
unsure = with 38 (207 ∷ 7 ∷ []) request

abbrev pub valueless : List ℕ
valueless = with 20 (replicate 8 255) request

-- a decision, in the order in which it is printed
abbrev pub decision : ℕ → ℕ → ℕ → ℕ → ℕ → ℕ → ℤ → ℕ → ℤ → ℕ → ℕ → ℕ → ℕ → Decision
decision a b c d e f g h i j k l m =
    record {
      sequence = a;
      action = b;
      reason = c;
      model = d;
      place = e;
      cost = f;
      utility = g;
      counterfactual = h;
      counterfactual_utility = i;
      evaluated = j;
      eligible = k;
      policy_epoch = l;
      catalog_epoch = m;
    }

-- the example's decision, and a rejection of its request
abbrev pub choice : Decision
choice = decision 42 2 2 2 1 300 (pos 6200) 1 (pos 5200) 2 2 7 3

abbrev pub rejected : ℕ → ℕ → Decision
rejected reason evaluated = decision 42 3 reason 0 65535 0 (pos 0) 0 (pos 0) evaluated 0 7 3

-- the nine counts, in theirs
abbrev pub counts : ℕ → ℕ → ℕ → ℕ → ℕ → ℕ → ℕ → ℕ → ℕ → RejectionHistogram
counts a b c d e f g h i =
    record {
      disabled = a;
      quality = b;
      risk_ceiling = c;
      latency = d;
      capability = e;
      provider = f;
      region = g;
      budget = h;
      utility = i;
    }

abbrev pub no_counts : RejectionHistogram
no_counts = counts 0 0 0 0 0 0 0 0 0

-- the answer of a decision with its counts, which are of as many models as it says
abbrev pub counted : Decision → RejectionHistogram → Answer DecisionAndTrace
counted d c =
    answered
    (record {
      decision = d;
      trace = record { rejections = c; evaluated_models = d.evaluated; eligible_models = d.eligible };
    })

abbrev pub lever : ℕ → ℕ → ℕ → Option ℕ → Entry
lever number current boundary cost = record { lever = number; current = current; boundary = boundary; cost = cost }

abbrev pub no_lever : Entry
no_lever = lever 0 0 0 none

-- an answer of a boundary call, with its rooms, how many are used, and the passes
abbrev pub boundary : ℕ → Decision → Bool → List Entry → ℕ → ℕ → Boundary
boundary id d blocked rooms n passes =
    record {
      refusal = no_fault;
      model = id;
      decision = d;
      blocked = blocked;
      levers = rooms;
      count = n;
      passes = passes;
    }
