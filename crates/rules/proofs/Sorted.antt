-- A list put in order by insertion, over any test: the same elements, each once. Over a strict order it is in order, those that are level stay in
-- their old order, and ordering it again changes nothing. Where an element stands that is told apart from those after it makes no difference.
-- Assumes nothing.
use Rattle.rules.proofs.Kit.{suc, ◌≡◌, refl, sym, subst, ap, ◌∙◌, Bool, true, false, cond, not, false≢true, List, [], ◌∷◌, ◌++◌, foldl, foldl-append}
use Rattle.rules.proofs.Kit.{append_assoc, append-nil, List-as-Permᴰ, List·Permᴰ·nil, List·Permᴰ·cons, List·Permᴰ·swap, List·Permᴰ·trans, Permᴰ·refl}
use Rattle.rules.proofs.Kit.{Permᴰ·symm, Permᴰ·append-left, Permᴰ·middle, Permᴰ·append-nil, length}
use Rattle.rules.specs.Order.{insert_by, sorted_by, Each, InOrder}
use Rattle.rules.proofs.Strict.{Strict, one_way, none_before, before-through}

-- ---- what holds for each, and what a permutation keeps

module _ {A : Type 0} where
  pub each-so : (P Q : A → Type 0) → ((a : A) → P a → Q a) → (xs : List A) → Each P xs → Each Q xs
  each-so P Q so [] h = tt
  each-so P Q so (x ∷ xs) h = (so x h.0, each-so P Q so xs h.1)

  pub each-middle : (P : A → Type 0) (xs : List A) (x : A) (ys : List A) → Each P (xs ++ x ∷ ys) → P x
  each-middle P [] x ys h = h.0
  each-middle P (y ∷ xs) x ys h = each-middle P xs x ys h.1

  pub each-moved : (P : A → Type 0) {xs ys : List A} → List-as-Permᴰ xs ys → Each P xs → Each P ys
  each-moved P List·Permᴰ·nil h = tt
  each-moved P (List·Permᴰ·cons e d) h = (subst P e h.0, each-moved P d h.1)
  each-moved P (List·Permᴰ·swap e f) h = (subst P f h.1.0, (subst P e h.0, h.1.1))
  each-moved P (List·Permᴰ·trans d f) h = each-moved P f (each-moved P d h)

  length_moved : {xs ys : List A} → List-as-Permᴰ xs ys → length xs ≡ length ys
  length_moved List·Permᴰ·nil = refl
  length_moved (List·Permᴰ·cons e d) = ap suc (length_moved d)
  length_moved (List·Permᴰ·swap e f) = refl
  length_moved (List·Permᴰ·trans d f) = length_moved d ∙ length_moved f

-- Of two, one is before the other and not both
abbrev pub Apart : {A : Type 0} → (A → A → Bool) → A → A → Type 0
Apart before a b = before b a ≡ not (before a b)

-- Those of a list that pass a test, in their order
abbrev pub passing : {A : Type 0} → (A → Bool) → List A → List A
passing test [] = []
passing test (x ∷ xs) = cond (test x) (x ∷ passing test xs) (passing test xs)

module _ {A : Type 0} (before : A → A → Bool) where
  -- ---- the same elements

  insert-permutes : (xs : List A) (c : A) → List-as-Permᴰ (insert_by before xs c) (c ∷ xs)
  insert-permutes [] c = Permᴰ·refl (c ∷ [])
  insert-permutes (x ∷ xs) c = go (before c x) (insert-permutes xs c)
    where
      go : (t : Bool) → List-as-Permᴰ (insert_by before xs c) (c ∷ xs) → List-as-Permᴰ (cond t (c ∷ x ∷ xs) (x ∷ insert_by before xs c)) (c ∷ x ∷ xs)
      go true r = Permᴰ·refl (c ∷ x ∷ xs)
      go false r = List·Permᴰ·trans (List·Permᴰ·cons refl r) (List·Permᴰ·swap refl refl)

  fold-permutes : (acc cs : List A) → List-as-Permᴰ (foldl (insert_by before) acc cs) (cs ++ acc)
  fold-permutes acc [] = Permᴰ·refl acc
  fold-permutes acc (c ∷ cs) =
      List·Permᴰ·trans (fold-permutes (insert_by before acc c) cs)
      (List·Permᴰ·trans (Permᴰ·append-left cs (insert-permutes acc c)) (Permᴰ·middle c cs acc))

  -- A LIST IN ORDER IS A PERMUTATION of the list
  pub sorted-permutes : (cs : List A) → List-as-Permᴰ (sorted_by before cs) cs
  sorted-permutes cs = List·Permᴰ·trans (fold-permutes [] cs) (Permᴰ·append-nil cs)

  -- so it is as long, and what holds for each holds for each in order
  pub sorted-length : (cs : List A) → length (sorted_by before cs) ≡ length cs
  sorted-length cs = length_moved (sorted-permutes cs)

  pub insert-each : (P : A → Type 0) (xs : List A) (c : A) → P c → Each P xs → Each P (insert_by before xs c)
  insert-each P xs c p h = each-moved P (Permᴰ·symm (insert-permutes xs c)) (p, h)

  pub sorted-each : (P : A → Type 0) (cs : List A) → Each P cs → Each P (sorted_by before cs)
  sorted-each P cs h = each-moved P (Permᴰ·symm (sorted-permutes cs)) h

  -- ONE MORE AT THE END is inserted into those in order
  pub sorted-snoc : (cs : List A) (c : A) → sorted_by before (cs ++ c ∷ []) ≡ insert_by before (sorted_by before cs) c
  sorted-snoc cs c = foldl-append (insert_by before) [] cs (c ∷ [])

  -- ---- in order already

  insert-last : (xs : List A) (c : A) (ys : List A) → InOrder before (xs ++ c ∷ ys) → insert_by before xs c ≡ xs ++ c ∷ []
  insert-last [] c ys o = refl
  insert-last (x ∷ xs) c ys o =
      rw (each-middle (λ b. before b x ≡ false) xs c ys o.0) (ap (λ l. x ∷ l) (insert-last xs c ys o.1))

  fold_same : (acc cs : List A) → InOrder before (acc ++ cs) → foldl (insert_by before) acc cs ≡ acc ++ cs
  fold_same acc [] o = sym (append-nil acc)
  fold_same acc (c ∷ cs) o =
      let here : (acc ++ c ∷ []) ++ cs ≡ acc ++ c ∷ cs = append_assoc acc (c ∷ []) cs in
      rw (insert-last acc c cs o) (fold_same (acc ++ c ∷ []) cs (rw here o) ∙ here)

  -- ORDERING WHAT IS IN ORDER CHANGES NOTHING
  pub sorted-same : (cs : List A) → InOrder before cs → sorted_by before cs ≡ cs
  sorted-same cs o = fold_same [] cs o

  -- ---- an element wherever it stands

  module _ (runs_on : (a b c : A) → before a b ≡ true → before b c ≡ true → before a c ≡ true) where
    -- two in either order, the first before the second
    in_turn : (a b : A) → before a b ≡ true → before b a ≡ false → (xs : List A)
        → insert_by before (insert_by before xs a) b ≡ insert_by before (insert_by before xs b) a
    in_turn a b p n [] = rw (n, p)
    in_turn a b p n (x ∷ xs) = go (before a x) (before b x) refl refl (in_turn a b p n xs)
      where
        go : (t u : Bool) → before a x ≡ t → before b x ≡ u → insert_by before (insert_by before xs a) b ≡ insert_by before (insert_by before xs b) a
            → insert_by before (cond t (a ∷ x ∷ xs) (x ∷ insert_by before xs a)) b ≡ insert_by before (cond u (b ∷ x ∷ xs) (x ∷ insert_by before xs b)) a
        go true true e f later = rw (n, p, f)
        go true false e f later = rw (n, e, f)
        go false true e f later = absurd (false≢true (sym e ∙ runs_on a b x p f))
        go false false e f later = rw (e, f) (ap (λ l. x ∷ l) later)

    -- TWO THAT ARE APART MAY BE INSERTED IN EITHER ORDER
    pub either_order : (a b : A) → Apart before a b → (xs : List A) → insert_by before (insert_by before xs a) b ≡ insert_by before (insert_by before xs b) a
    either_order a b d xs = go (before a b) refl d
      where
        go : (t : Bool) → before a b ≡ t → before b a ≡ not t → insert_by before (insert_by before xs a) b ≡ insert_by before (insert_by before xs b) a
        go true p n = in_turn a b p n xs
        go false n p = sym (in_turn b a p n xs)

    later : (x : A) (acc ks : List A) → Each (Apart before x) ks
        → foldl (insert_by before) (insert_by before acc x) ks ≡ insert_by before (foldl (insert_by before) acc ks) x
    later x acc [] h = refl
    later x acc (k ∷ ks) h =
        ap (λ a. foldl (insert_by before) a ks) (either_order x k h.0 acc) ∙ later x (insert_by before acc k) ks h.1

    -- WHERE AN ELEMENT STANDS MAKES NO DIFFERENCE: it may as well come last
    pub sorted-moved : (ls : List A) (x : A) (ks : List A) → Each (Apart before x) ks
        → sorted_by before (ls ++ x ∷ ks) ≡ sorted_by before ((ls ++ ks) ++ x ∷ [])
    sorted-moved ls x ks h =
        foldl-append (insert_by before) [] ls (x ∷ ks) ∙ later x (sorted_by before ls) ks h
        ∙ sym (sorted-snoc (ls ++ ks) x ∙ ap (λ l. insert_by before l x) (foldl-append (insert_by before) [] ls ks))

-- ---- over a strict order

module _ {A : Type 0} {before : A → A → Bool} {Same : A → A → Type 0} (s : Strict before Same) where
  insert-in-order : (xs : List A) (c : A) → InOrder before xs → InOrder before (insert_by before xs c)
  insert-in-order [] c o = (tt, tt)
  insert-in-order (x ∷ xs) c o = go (before c x) refl (insert-in-order xs c o.1)
    where
      go : (t : Bool) → before c x ≡ t → InOrder before (insert_by before xs c) → InOrder before (cond t (c ∷ x ∷ xs) (x ∷ insert_by before xs c))
      go true p r = ((one_way s c x p, each-so (λ y. before y x ≡ false) _ (λ y n. none_before s c x y p n) xs o.0), o)
      go false p r = (insert-each before (λ y. before y x ≡ false) xs c p o.0, r)

  fold-in-order : (acc cs : List A) → InOrder before acc → InOrder before (foldl (insert_by before) acc cs)
  fold-in-order acc [] o = o
  fold-in-order acc (c ∷ cs) o = fold-in-order (insert_by before acc c) cs (insert-in-order acc c o)

  -- A LIST IN ORDER IS IN ORDER: none comes before one that stands before it
  pub sorted-in-order : (cs : List A) → InOrder before (sorted_by before cs)
  sorted-in-order cs = fold-in-order [] cs tt

  -- ---- those that are level, picked out by a test

  module _ (same : (a b c : A) → Same a b → before c a ≡ true → before c b ≡ true) (test : A → Bool)
      (level : (a b : A) → test a ≡ true → test b ≡ true → before a b ≡ false) where
    -- one that stands before others that fail where it passes may as well stand behind them
    behind : (c : A) (xs : List A) → (test c ≡ true → Each (λ x. test x ≡ false) xs) → passing test (c ∷ xs) ≡ passing test (xs ++ c ∷ [])
    behind c [] h = refl
    behind c (x ∷ xs) h = go (test c) (test x) refl refl (behind c xs (λ p. (h p).1))
      where
        go : (t u : Bool) → test c ≡ t → test x ≡ u → cond t (c ∷ passing test xs) (passing test xs) ≡ passing test (xs ++ c ∷ [])
            → cond t (c ∷ cond u (x ∷ passing test xs) (passing test xs)) (cond u (x ∷ passing test xs) (passing test xs))
            ≡ cond u (x ∷ passing test (xs ++ c ∷ [])) (passing test (xs ++ c ∷ []))
        go t false p q later = later
        go true true p q later = absurd (false≢true (sym (h p).0 ∙ q))
        go false true p q later = ap (λ l. x ∷ l) later

    fails : (c x : A) → before c x ≡ true → test c ≡ true → test x ≡ false
    fails c x p q = go (test x) refl
      where
        go : (t : Bool) → test x ≡ t → t ≡ false
        go true r = absurd (false≢true (sym (level c x q r) ∙ p))
        go false r = refl

    insert-stable : (xs : List A) (c : A) → InOrder before xs → passing test (insert_by before xs c) ≡ passing test (xs ++ c ∷ [])
    insert-stable [] c o = refl
    insert-stable (x ∷ xs) c o = go (before c x) refl (insert-stable xs c o.1)
      where
        go : (t : Bool) → before c x ≡ t → passing test (insert_by before xs c) ≡ passing test (xs ++ c ∷ [])
            → passing test (cond t (c ∷ x ∷ xs) (x ∷ insert_by before xs c)) ≡ passing test (x ∷ xs ++ c ∷ [])
        go true p later =
            behind c (x ∷ xs)
            (λ q. (fails c x p q, each-so (λ y. before y x ≡ false) _ (λ y n. fails c y (before-through s same c x y p n) q) xs o.0))
        go false p later = ap (λ l. cond (test x) (x ∷ l) l) later

    passing-append : (xs ys : List A) → passing test (xs ++ ys) ≡ passing test xs ++ passing test ys
    passing-append [] ys = refl
    passing-append (x ∷ xs) ys = rw (passing-append xs ys) (go (test x))
      where
        go : (t : Bool) → cond t (x ∷ passing test xs ++ passing test ys) (passing test xs ++ passing test ys)
            ≡ cond t (x ∷ passing test xs) (passing test xs) ++ passing test ys
        go true = refl
        go false = refl

    fold-stable : (acc cs : List A) → InOrder before acc → passing test (foldl (insert_by before) acc cs) ≡ passing test (acc ++ cs)
    fold-stable acc [] o = ap (passing test) (sym (append-nil acc))
    fold-stable acc (c ∷ cs) o =
        fold-stable (insert_by before acc c) cs (insert-in-order acc c o)
        ∙ passing-append (insert_by before acc c) cs
        ∙ ap (λ l. l ++ passing test cs) (insert-stable acc c o)
        ∙ sym (passing-append (acc ++ c ∷ []) cs)
        ∙ ap (passing test) (append_assoc acc (c ∷ []) cs)

    -- THOSE THAT ARE LEVEL STAY IN THEIR OLD ORDER
    pub sorted-stable : (cs : List A) → passing test (sorted_by before cs) ≡ passing test cs
    sorted-stable cs = fold-stable [] cs tt
