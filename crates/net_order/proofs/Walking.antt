-- The steps of a walk.
use Rattle.std.proofs.Common.{◌≡◌, ℕ, zero, suc, ◌+◌, ◌<◌, ◌⊎◌, inl, inr, List, [], ◌∷◌, ◌++◌, Bool, true, false, refl, sym, ap, ◌∙◌, subst, length, arith, append_assoc, get_or, set, replicate, add-one}
use Rattle.std.specs.Prelude.{cond, ◌||◌, ◌==◌, fold, flat_map, All}
use Rattle.std.proofs.lemmas.List.Folds.{list_any-append}
use Rattle.std.proofs.lemmas.List.Sums.{fold-append}
use Rattle.std.proofs.lemmas.Bool.{cases_eq}
use Rattle.std.proofs.lemmas.List.{append-nil, length-set, length-replicate}
use Rattle.std.proofs.lemmas.List.{get_or-set_other, get_or-set_same}
use Rattle.net_order.specs.declared.walk.Frame.{Frame}
use Rattle.net_order.specs.declared.walk.Frame.TheVariants.{Enter, Leave}
use Rattle.net_order.specs.Order.{is_member, with_number}
use Rattle.net_order.specs.Walk.{IsSubset, pending, LeftAreFound, entered, signal_of, IsWalkState}

or_cases : (a b : Bool) → (a || b) ≡ true → (a ≡ true) ⊎ (b ≡ true)
or_cases true b e = inl refl
or_cases false b e = inr e

or_left : (a b : Bool) → a ≡ true → (a || b) ≡ true
or_left a b e = ap (λ x. x || b) e

or_right : (a b : Bool) → b ≡ true → (a || b) ≡ true
or_right true b e = refl
or_right false b e = e

pub in_append : (x : ℕ) (xs ys : List ℕ) → is_member x (xs ++ ys) ≡ (is_member x xs || is_member x ys)
in_append x xs ys = list_any-append (λ t. t == x) xs ys

pub among_same : (xs : List ℕ) → IsSubset xs xs
among_same xs x h = h

pub among_more : (xs ys zs : List ℕ) → IsSubset xs ys → IsSubset (xs ++ zs) (ys ++ zs)
among_more xs ys zs h x e =
    in_append x ys zs ∙
    elim (or_cases (is_member x xs) (is_member x zs) (sym (in_append x xs zs) ∙ e)) [
      | inl l ↦ or_left (is_member x ys) (is_member x zs) (h x l)
      | inr r ↦ or_right (is_member x ys) (is_member x zs) r
    ]

-- what was there already adds nothing
pub among_joined : (xs ys : List ℕ) → IsSubset ys xs → IsSubset (xs ++ ys) xs
among_joined xs ys h x e =
    elim (or_cases (is_member x xs) (is_member x ys) (sym (in_append x xs ys) ∙ e)) [ inl l ↦ l | inr r ↦ h x r ]

pub among_right : (xs ys : List ℕ) → IsSubset ys (xs ++ ys)
among_right xs ys x e = in_append x xs ys ∙ or_right (is_member x xs) (is_member x ys) e

pub among_left : (xs ys : List ℕ) → IsSubset xs (xs ++ ys)
among_left xs ys x e = in_append x xs ys ∙ or_left (is_member x xs) (is_member x ys) e

same_number : (x : ℕ) → (x == x) ≡ true
same_number x = grind arith

pub nothing_new : (found xs : List ℕ) → IsSubset xs found → fold with_number found xs ≡ found
nothing_new found [] h = refl
nothing_new found (x ∷ xs) h =
    let there : is_member x found ≡ true = h x (or_left (x == x) (is_member x xs) (same_number x)) in
    ap (λ b. fold with_number (cond b found (found ++ x ∷ [])) xs) there ∙
    nothing_new found xs (λ y e. h y (or_right (x == y) (is_member y xs) e))

other_number : (x y : ℕ) → (x ≡ y → ⊥) → (x == y) ≡ false
other_number x y h = grind arith

not_yes : (b : Bool) → (b ≡ true → ⊥) → b ≡ false
not_yes true h = absurd (h refl)
not_yes false h = refl

old_last : (t s : ℕ) (b : Bool) → (t ≡ s → ⊥) → (b || ((s == t) || false)) ≡ true → b ≡ true
old_last t s b ne e = grind arith

old_one : (t s : ℕ) (found : List ℕ) → (t ≡ s → ⊥) → is_member t (found ++ s ∷ []) ≡ true → is_member t found ≡ true
old_one t s found ne e = old_last t s (is_member t found) ne (sym (in_append t found (s ∷ [])) ∙ e)

no_true : false ≡ true → ⊥
no_true e = cc

module _ (leaves : ℕ → List ℕ) where
  pub wider : (todo : List Frame) (xs ys : List ℕ) → IsSubset xs ys → LeftAreFound leaves todo xs → LeftAreFound leaves todo ys
  wider [] xs ys h w = tt
  wider (Enter s ∷ todo) xs ys h w = wider todo (xs ++ leaves s) (ys ++ leaves s) (among_more xs ys (leaves s) h) w
  wider (Leave s ∷ todo) xs ys h (a, w) = (λ x e. h x (a x e), wider todo xs ys h w)

  -- a signal whose leaves have been found is passed
  pub passed_well : (s : ℕ) (todo : List Frame) (found : List ℕ) → IsSubset (leaves s) found → LeftAreFound leaves (Enter s ∷ todo) found → LeftAreFound leaves todo found
  passed_well s todo found h w = wider todo (found ++ leaves s) found (among_joined found (leaves s) h) w

  pub passed_rest : (s : ℕ) (todo : List Frame) (found : List ℕ) → IsSubset (leaves s) found → fold with_number found (pending leaves (Enter s ∷ todo)) ≡ fold with_number found (pending leaves todo)
  passed_rest s todo found h =
      fold-append with_number found (leaves s) (pending leaves todo) ∙ ap (λ f. fold with_number f (pending leaves todo)) (nothing_new found (leaves s) h)

  pub entered_pending : (os : List ℕ) (todo : List Frame) → pending leaves (entered os todo) ≡ flat_map leaves os ++ pending leaves todo
  entered_pending [] todo = refl
  entered_pending (o ∷ os) todo = ap (λ xs. leaves o ++ xs) (entered_pending os todo) ∙ sym (append_assoc (leaves o) (flat_map leaves os) (pending leaves todo))

  pub entered_well : (os : List ℕ) (todo : List Frame) (found : List ℕ) → LeftAreFound leaves todo (found ++ flat_map leaves os) → LeftAreFound leaves (entered os todo) found
  entered_well [] todo found w = wider todo (found ++ []) found (among_joined found [] (λ x e. elim (no_true e) [ ])) w
  entered_well (o ∷ os) todo found w =
      entered_well os todo (found ++ leaves o) (subst (LeftAreFound leaves todo) (sym (append_assoc found (leaves o) (flat_map leaves os))) w)

  -- a gate is opened: its operands come on the stack, above the frame that leaves it
  pub opened_well : (s : ℕ) (os : List ℕ) (todo : List Frame) (found : List ℕ) → leaves s ≡ flat_map leaves os → LeftAreFound leaves (Enter s ∷ todo) found → LeftAreFound leaves (entered os (Leave s ∷ todo)) found
  opened_well s os todo found e w =
      entered_well os (Leave s ∷ todo) found
      (subst (λ xs. IsSubset (leaves s) (found ++ xs)) e (among_right found (leaves s)), subst (λ xs. LeftAreFound leaves todo (found ++ xs)) e w)

  pub opened_rest : (s : ℕ) (os : List ℕ) (todo : List Frame) (found : List ℕ) → leaves s ≡ flat_map leaves os →
      fold with_number found (pending leaves (entered os (Leave s ∷ todo))) ≡ fold with_number found (pending leaves (Enter s ∷ todo))
  opened_rest s os todo found e =
      ap (fold with_number found) (entered_pending os (Leave s ∷ todo) ∙ ap (λ xs. xs ++ pending leaves todo) (sym e))

  -- ---- the four ways of a step

  module _ (count : ℕ) (goal : List ℕ) where
    abbrev Inside : List Frame → Type 0
    Inside todo = All (λ f. signal_of f < count) todo

    rest_all : (P : Frame → Type 0) (f : Frame) (todo : List Frame) → All P (f ∷ todo) → All P todo
    rest_all P f todo h i d low = subst P (rw add-one refl) (h (i + 1) d (omega arith))

    rest_inside : (f : Frame) (todo : List Frame) → Inside (f ∷ todo) → Inside todo
    rest_inside f todo h = rest_all (λ g. signal_of g < count) f todo h

    top_inside : (f : Frame) (todo : List Frame) → Inside (f ∷ todo) → signal_of f < count
    top_inside f todo h = h 0 f (omega arith)

    -- a signal is left: now it has been seen
    pub left : (found : List ℕ) (seen : List Bool) (s : ℕ) (todo : List Frame) →
        IsWalkState leaves count goal found seen (Leave s ∷ todo) → IsWalkState leaves count goal found (set seen s true) todo
    left found seen s todo w =
        let in_seen : s < length seen = omega (arith, w.len, top_inside (Leave s) todo w.in_bounds) in
        record {
          len = length-set seen s true ∙ w.len;
          reaches_goal = w.reaches_goal;
          visited = λ t low e. elim (cases_eq t s) [
            | inl same ↦ subst (λ x. IsSubset (leaves x) found) (sym same) w.left_are_found.0
            | inr ne ↦ w.visited t low (sym (get_or-set_other seen s t true false ne) ∙ e)
          ];
          kept = λ t low e. elim (cases_eq t s) [
            | inl same ↦ ap (λ x. get_or (set seen s true) x false) same ∙ get_or-set_same seen s true false in_seen
            | inr ne ↦ get_or-set_other seen s t true false ne ∙ w.kept t low e
          ];
          left_are_found = w.left_are_found.1;
          in_bounds = rest_inside (Leave s) todo w.in_bounds;
        }

    -- a signal that has been seen is passed
    pub passed : (found : List ℕ) (seen : List Bool) (s : ℕ) (todo : List Frame) → get_or seen s false ≡ true →
        IsWalkState leaves count goal found seen (Enter s ∷ todo) → IsWalkState leaves count goal found seen todo
    passed found seen s todo e w =
        let there : IsSubset (leaves s) found = w.visited s (top_inside (Enter s) todo w.in_bounds) e in
        record {
          len = w.len;
          reaches_goal = sym (passed_rest s todo found there) ∙ w.reaches_goal;
          visited = w.visited;
          kept = w.kept;
          left_are_found = passed_well s todo found there w.left_are_found;
          in_bounds = rest_inside (Enter s) todo w.in_bounds;
        }

    entered_inside : (os : List ℕ) (todo : List Frame) → All (λ o. o < count) os → Inside todo → Inside (entered os todo)
    entered_inside [] todo h k i d low = k i d low
    entered_inside (o ∷ os) todo h k zero d low = h zero o (omega arith)
    entered_inside (o ∷ os) todo h k (suc i) d low =
        entered_inside os todo (λ j e b. subst (λ x. x < count) (rw add-one refl) (h (j + 1) e (omega arith))) k i d (omega arith)

    left_inside : (s : ℕ) (todo : List Frame) → Inside (Enter s ∷ todo) → Inside (Leave s ∷ todo)
    left_inside s todo h zero d low = h zero d (omega arith)
    left_inside s todo h (suc i) d low = h (suc i) d low

    -- a gate is opened: its operands are entered, and then it is left
    pub opened : (found : List ℕ) (seen : List Bool) (s : ℕ) (os : List ℕ) (todo : List Frame) → leaves s ≡ flat_map leaves os → All (λ o. o < count) os →
        IsWalkState leaves count goal found seen (Enter s ∷ todo) → IsWalkState leaves count goal found seen (entered os (Leave s ∷ todo))
    opened found seen s os todo e low w = record {
      len = w.len;
      reaches_goal = opened_rest s os todo found e ∙ w.reaches_goal;
      visited = w.visited;
      kept = w.kept;
      left_are_found = opened_well s os todo found e w.left_are_found;
      in_bounds = entered_inside os (Leave s ∷ todo) low (left_inside s todo w.in_bounds);
    }

    -- an input that has not been seen has not been found
    met_rest : (found : List ℕ) (seen : List Bool) (s : ℕ) (todo : List Frame) → leaves s ≡ s ∷ [] → get_or seen s false ≡ false →
        IsWalkState leaves count goal found seen (Enter s ∷ todo) →
        fold with_number (found ++ s ∷ []) (pending leaves todo) ≡ fold with_number found (pending leaves (Enter s ∷ todo))
    met_rest found seen s todo e h w =
        let new : is_member s found ≡ false = not_yes (is_member s found) (λ yes. no_true (sym h ∙ w.kept s (top_inside (Enter s) todo w.in_bounds) yes)) in
        sym (
        ap (λ xs. fold with_number found (xs ++ pending leaves todo)) e ∙
        ap (λ b. fold with_number (cond b found (found ++ s ∷ [])) (pending leaves todo)) new
        )

    -- an input that has not been seen is found, and has now been seen
    pub found_input : (found : List ℕ) (seen : List Bool) (s : ℕ) (todo : List Frame) → leaves s ≡ s ∷ [] → get_or seen s false ≡ false →
        IsWalkState leaves count goal found seen (Enter s ∷ todo) → IsWalkState leaves count goal (found ++ s ∷ []) (set seen s true) todo
    found_input found seen s todo e h w =
        let in_seen : s < length seen = omega (arith, w.len, top_inside (Enter s) todo w.in_bounds) in
        record {
          len = length-set seen s true ∙ w.len;
          reaches_goal = met_rest found seen s todo e h w ∙ w.reaches_goal;
          visited = λ t low k. elim (cases_eq t s) [
            | inl same ↦ subst (λ xs. IsSubset xs (found ++ s ∷ [])) (sym e ∙ ap leaves (sym same)) (among_right found (s ∷ []))
            | inr ne ↦ λ x j. among_left found (s ∷ []) x (w.visited t low (sym (get_or-set_other seen s t true false ne) ∙ k) x j)
          ];
          kept = λ t low k. elim (cases_eq t s) [
            | inl same ↦ ap (λ x. get_or (set seen s true) x false) same ∙ get_or-set_same seen s true false in_seen
            | inr ne ↦ get_or-set_other seen s t true false ne ∙ w.kept t low (old_one t s found ne k)
          ];
          left_are_found = subst (λ xs. LeftAreFound leaves todo (found ++ xs)) e w.left_are_found;
          in_bounds = rest_inside (Enter s) todo w.in_bounds;
        }

    not_seen : (n s : ℕ) → get_or (replicate n false) s false ≡ true → ⊥
    not_seen zero s e = no_true e
    not_seen (suc n) zero e = no_true e
    not_seen (suc n) (suc s) e = not_seen n s e

    -- nothing has been found, and the outputs are to be entered
    pub started : (outs : List ℕ) → fold with_number [] (flat_map leaves outs) ≡ goal → All (λ s. s < count) outs →
        IsWalkState leaves count goal [] (replicate count false) (entered outs [])
    started outs e in_bounds = record {
      len = length-replicate count false;
      reaches_goal = ap (fold with_number []) (entered_pending outs [] ∙ append-nil (flat_map leaves outs)) ∙ e;
      visited = λ s low h. absurd (not_seen count s h);
      kept = λ s low h. absurd (no_true h);
      left_are_found = entered_well outs [] [] tt;
      in_bounds = entered_inside outs [] in_bounds (λ i d low. absurd (omega arith));
    }

-- ---- seen and frames

pub same_visit : (seen : List Bool) (i : ℕ) (d e : Bool) → i < length seen → get_or seen i d ≡ get_or seen i e
same_visit [] i d e h = absurd (omega (arith, h))
same_visit (m ∷ ms) zero d e h = refl
same_visit (m ∷ ms) (suc i) d e h = same_visit ms i d e (omega (arith, h))

-- a single frame
pub top_low : (count s : ℕ) → s < count → All (λ f. signal_of f < count) (Enter s ∷ [])
top_low count s low zero d h = low
top_low count s low (suc i) d h = absurd (omega (arith, h))
