-- Laws of room for four levers: what goes into it stands there in its order, with nothing after it; and the answer with such a room. Assumes
-- nothing.
use Rattle.rules.proofs.Kit.{ℕ, suc, ◌+◌, ◌-◌, ◌<◌, ◌≤◌, dec_lt, arith, ◌≡◌, refl, sym, ap, ap₂, ◌∙◌, List, [], ◌∷◌, ◌++◌, append-nil, append_assoc}
use Rattle.rules.proofs.Kit.{Bool, length, set, replicate, length-append}
use Rattle.std.proofs.lemmas.List.{map-set}
use Rattle.rules.specs.{Refused.no_fault, Numbers.Entry, Numbers.Decision, Numbers.Boundary, Levers.Sought, Levers.no_entry, Levers.no_search}
use Rattle.rules.specs.{Levers.and_then, Levers.boundary_of}
use Rattle.rules.proofs.Choices.{below-yes, below-no}
use Rattle.counterfactual_answer.specs.Levers.{LeverRooms, pushed, passed, all_pushed, rooms_joined, room_of, boundary_with}

-- ---- one lever more

pushed_full : (t : LeverRooms) (e : Entry) → 4 ≤ t.count → pushed t e ≡ t
unfolding pushed
pushed_full t e h = below-no t.count 4 _ _ h

pushed_is : (t : LeverRooms) (e : Entry) → t.count < 4
    → pushed t e ≡ record { levers = set t.levers t.count e; count = t.count + 1; passes = t.passes }
unfolding pushed
pushed_is t e h = below-yes t.count 4 _ _ h

-- ---- the passes

pub pushed_passes : (t : LeverRooms) (e : Entry) → (pushed t e).passes ≡ t.passes
pushed_passes t e = go (dec_lt t.count 4)
  where
    go : Dec (t.count < 4) → (pushed t e).passes ≡ t.passes
    go (yes h) = rw (pushed_is t e h)
    go (no h) = rw (pushed_full t e (omega arith))

-- what code proofs use of a lever more
pub ruleset pushes = (map-set, pushed_passes)

all_passes : (t : LeverRooms) (es : List Entry) → (all_pushed t es).passes ≡ t.passes
all_passes t [] = refl
all_passes t (e ∷ es) = all_passes (pushed t e) es ∙ pushed_passes t e

pub joined_passes : {u : LeverRooms} (t : LeverRooms) (s : Sought) → u ≡ rooms_joined t s → u.passes ≡ t.passes + s.passes
joined_passes t s e = rw e (rw all_passes)

-- ---- what stands in a room

-- a list of levers, and nothing after it
abbrev room_for : List Entry → ℕ → LeverRooms
room_for es n = record { levers = es ++ replicate (4 - length es) no_entry; count = length es; passes = n }

-- a lever goes to the first free room
fill : (es : List Entry) (e : Entry) (m : ℕ) → set (es ++ replicate (suc m) no_entry) (length es) e ≡ (es ++ e ∷ []) ++ replicate m no_entry
fill [] e m = refl
fill (x ∷ es) e m = ap (λ l. x ∷ l) (fill es e m)

one_more_lem : (es : List Entry) (n : ℕ) (e : Entry) → length es < 4 → pushed (room_for es n) e ≡ room_for (es ++ e ∷ []) n
one_more_lem es n e h =
    let free : 4 - length es ≡ suc (3 - length es) = omega arith in
    let more : length (es ++ e ∷ []) ≡ length es + 1 = simp length-append in
    let left : 4 - length (es ++ e ∷ []) ≡ 3 - length es = omega arith in
    pushed_is (room_for es n) e h
    ∙ ap₂ (λ (a : List Entry) (b : ℕ). let t : LeverRooms = record { levers = a; count = b; passes = n } in t)
    (rw (free, left) (fill es e (3 - length es)))
    (sym more)

all_more : (es fs : List Entry) (n : ℕ) → length es + length fs ≤ 4 → all_pushed (room_for es n) fs ≡ room_for (es ++ fs) n
all_more es [] n h = ap (λ l. room_for l n) (sym (append-nil es))
all_more es (f ∷ fs) n h =
    let more : length (es ++ f ∷ []) ≡ length es + 1 = simp length-append in
    ap (λ t. all_pushed t fs) (one_more_lem es n f (omega arith))
    ∙ all_more (es ++ f ∷ []) fs n (omega arith)
    ∙ ap (λ l. room_for l n) (append_assoc es (f ∷ []) fs)

-- WHAT IS SOUGHT NEXT STANDS BEHIND WHAT WAS SOUGHT BEFORE
pub joined_room : (s t : Sought) → length s.entries + length t.entries ≤ 4 → rooms_joined (room_of s) t ≡ room_of (and_then s t)
unfolding room_of
joined_room s t h =
    let sum : 1 + s.passes + t.passes ≡ 1 + (s.passes + t.passes) = omega arith in
    ap (λ u. passed u t.passes) (all_more s.entries t.entries (1 + s.passes) h)
    ∙ ap (room_for (s.entries ++ t.entries)) sum

-- FOUR SEARCHES OF AT MOST ONE LEVER EACH, one after the other
abbrev Few : Sought → Type 0
Few s = length s.entries ≤ 1

regrouped : (a b d e : Sought) → and_then (and_then (and_then (and_then no_search a) b) d) e ≡ and_then a (and_then b (and_then d e))
regrouped a b d e =
    let list : ((a.entries ++ b.entries) ++ d.entries) ++ e.entries ≡ a.entries ++ (b.entries ++ (d.entries ++ e.entries)) = simp append_assoc in
    let sum : 0 + a.passes + b.passes + d.passes + e.passes ≡ a.passes + (b.passes + (d.passes + e.passes)) = omega arith in
    ap₂ (λ (es : List Entry) (n : ℕ). let s : Sought = record { entries = es; passes = n } in s) list sum

pub four_joined : (a b d e : Sought) → Few a → Few b → Few d → Few e
    → rooms_joined (rooms_joined (rooms_joined (rooms_joined (room_of no_search) a) b) d) e ≡ room_of (and_then a (and_then b (and_then d e)))
four_joined a b d e ha hb hd he =
    let ab : length (a.entries ++ b.entries) ≤ 2 = rw length-append (omega arith) in
    let abd : length ((a.entries ++ b.entries) ++ d.entries) ≤ 3 = rw length-append (omega arith) in
    ap (λ u. rooms_joined (rooms_joined (rooms_joined u b) d) e) (joined_room no_search a (omega arith))
    ∙ ap (λ u. rooms_joined (rooms_joined u d) e) (joined_room (and_then no_search a) b (omega arith))
    ∙ ap (λ u. rooms_joined u e) (joined_room (and_then (and_then no_search a) b) d (omega arith))
    ∙ joined_room (and_then (and_then (and_then no_search a) b) d) e (omega arith)
    ∙ ap room_of (regrouped a b d e)

-- ---- an answer by its parts

pub answer_made : {b : Boundary} {x y : Decision} {t : LeverRooms} (id : ℕ) (blocked : Bool) (s : Sought) → x ≡ y → t ≡ room_of s
    → b ≡ boundary_with no_fault id x blocked t → b ≡ boundary_of id y blocked s
unfolding boundary_of room_of
answer_made id blocked s p q e = e ∙ ap₂ (λ (x : Decision) (t : LeverRooms). boundary_with no_fault id x blocked t) p q
