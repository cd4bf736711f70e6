-- The walk below a signal of a netlist: its start, and each of its steps.
use Rattle.std.proofs.Common.{◌≡◌, ℕ, zero, suc, ◌+◌, ◌-◌, ◌<◌, ◌≤◌, List, [], ◌∷◌, ◌++◌, Bool, true, false, refl, sym, ap, ◌∙◌, subst, length, map, replicate, take, drop, arith, get_or, set, All}
use Rattle.std.specs.Prelude.{◌==◌, find, flat_map, reverse, nat_lt, Some, None, slice_get, fold}
use Rattle.std.specs.List.{sum_by}
use Rattle.std.proofs.lemmas.Bool.Decides.{nat_tests}
use Rattle.std.proofs.lemmas.List.Sums.{sum_by-cons, fold-append}
use Rattle.std.proofs.lemmas.List.{reverse-append, append-nil, take_more, drop_more, flat_map_more}
use Rattle.std.proofs.lemmas.List.Elements.{All-append}
use Rattle.net_bench.specs.declared.netlist.GateLine.{GateLine}
use Rattle.net_bench.specs.Circuit.{Circuit, Net, IsNet, circuit}
use Rattle.net_order.specs.declared.walk.Frame.{Frame}
use Rattle.net_order.specs.declared.walk.Frame.TheVariants.{Enter, Leave}
use Rattle.net_order.specs.declared.walk.OperandOrder.{OperandOrder}
use Rattle.net_order.specs.declared.walk.OperandOrder.TheVariants.{ByRank}
use Rattle.net_order.specs.Order.{below, in_walk_order, with_number}
use Rattle.net_order.specs.Walk.{AreOrderedOperands, IsWalkToOutcome, IsBetweenWalks, IsStepsOf, IsWalk, entered, frame_steps, outcome, steps_below, steps_left}
use Rattle.net_order.proofs.Leaves.{gate_leaves, steps_inside, gate_steps, input_leaves, some_steps, taken_all}
use Rattle.net_order.proofs.Walking.{started, left, passed, opened, found_input, same_visit, top_low}

-- ---- the operands that are kept for each gate

next_of : (k : ℕ) → (k ≡ 0 → ⊥) → k ≡ suc (k - 1)
next_of zero h = absurd (h refl)
next_of (suc k) h = omega arith

no_list : (os : List ℕ) → None ≡ Some os → ⊥
no_list os e = cc

same_list : (xs os : List ℕ) → Some xs ≡ Some os → os ≡ xs
same_list xs os e = cc

pub list_at : (f : GateLine → List ℕ) (gates : List GateLine) (k : ℕ) (os : List ℕ) → slice_get (map f gates) k ≡ Some os → (g : GateLine) × (slice_get gates k ≡ Some g) × (os ≡ f g)
list_at f [] k os e = absurd (no_list os e)
list_at f (g ∷ gates) zero os e = (g, refl, same_list (f g) os e)
list_at f (g ∷ gates) (suc k) os e = list_at f gates k os e

no_list_at : (f : GateLine → List ℕ) (gates : List GateLine) (k : ℕ) → slice_get (map f gates) k ≡ None → slice_get gates k ≡ None
no_list_at f [] k e = refl
no_list_at f (g ∷ gates) zero e = absurd (no_list (f g) (sym e))
no_list_at f (g ∷ gates) (suc k) e = no_list_at f gates k e

-- the role names the gate whose operands are these
pub listed_steps : (operand_order : OperandOrder) (n : Net) (lists : List (List ℕ)) → AreOrderedOperands operand_order n lists → (s place : ℕ) (os : List ℕ) → find (λ g. g.out == s) n.gates ≡ slice_get n.gates place →
    slice_get lists place ≡ Some os → IsStepsOf operand_order (circuit n) s os
listed_steps operand_order n lists h s place os gate e =
    let here = list_at (λ g. in_walk_order operand_order (circuit n) g.operands) n.gates place os (subst (λ xs. slice_get xs place ≡ Some os) h.each e) in
    record { gate = here.0; found = gate ∙ here.1; is = here.2 }

pub no_steps : (operand_order : OperandOrder) (n : Net) (lists : List (List ℕ)) → AreOrderedOperands operand_order n lists → (s place : ℕ) → find (λ g. g.out == s) n.gates ≡ slice_get n.gates place →
    slice_get lists place ≡ None → find (λ g. g.out == s) n.gates ≡ None
no_steps operand_order n lists h s place gate e =
    gate ∙ no_list_at (λ g. in_walk_order operand_order (circuit n) g.operands) n.gates place (subst (λ xs. slice_get xs place ≡ None) h.each e)

module _ (operand_order : OperandOrder) where
  -- ---- steps

  steps_more : (c : Circuit) (f : Frame) (todo : List Frame) → steps_left operand_order c (f ∷ todo) ≡ frame_steps (steps_below operand_order c) f + steps_left operand_order c todo
  steps_more c f todo = sum_by-cons (frame_steps (steps_below operand_order c)) f todo

  steps_entered : (c : Circuit) (os : List ℕ) (todo : List Frame) → steps_left operand_order c (entered os todo) ≡ sum_by (steps_below operand_order c) os + steps_left operand_order c todo
  steps_entered c [] todo = omega arith
  steps_entered c (o ∷ os) todo = omega (arith, steps_more c (Enter o) (entered os todo), steps_entered c os todo, sum_by-cons (steps_below operand_order c) o os)

  -- each step makes fewer steps left
  pub fewer : (c : Circuit) (f : Frame) (todo : List Frame) → steps_left operand_order c todo < steps_left operand_order c (f ∷ todo)
  fewer c (Enter s) todo = omega (arith, steps_more c (Enter s) todo, some_steps operand_order c (length c.gates) s)
  fewer c (Leave s) todo = omega (arith, steps_more c (Leave s) todo)

  -- ---- what is still to be found

  -- a walk finds what is still to be found
  pub going : (c : Circuit) (goal found : List ℕ) (seen : List Bool) (todo : List Frame) → IsWalk operand_order c goal found seen todo → IsWalkToOutcome operand_order c found seen todo
  going c goal found seen todo w = subst (λ g. IsWalk operand_order c g found seen todo) (sym w.reaches_goal) w

  pub towards : (c : Circuit) (goal old found : List ℕ) (seen was : List Bool) (before todo : List Frame) → IsWalk operand_order c goal old was before → IsWalk operand_order c (outcome operand_order c old before) found seen todo → IsWalk operand_order c goal found seen todo
  towards c goal old found seen was before todo w v = subst (λ g. IsWalk operand_order c g found seen todo) w.reaches_goal v

  -- ---- the three cases in which a signal is entered

  visit_is : (c : Circuit) (goal found : List ℕ) (seen : List Bool) (s : ℕ) (todo : List Frame) → IsWalk operand_order c goal found seen (Enter s ∷ todo) →
      (r : Bool) → r ≡ get_or seen s r → r ≡ get_or seen s false
  visit_is c goal found seen s todo w r at =
      let low : s < length c.names = w.in_bounds 0 (Enter s) (omega arith) in
      at ∙ same_visit seen s r false (omega (arith, w.len, low))

  -- a signal that has been seen is passed
  pub enter_visited : (c : Circuit) (goal found : List ℕ) (seen : List Bool) (s : ℕ) (todo : List Frame) → IsWalk operand_order c goal found seen (Enter s ∷ todo) →
      (r : Bool) → r ≡ get_or seen s r → r ≡ true → IsWalk operand_order c goal found seen todo
  enter_visited c goal found seen s todo w r at e = passed (below operand_order c) (length c.names) goal found seen s todo (sym (visit_is c goal found seen s todo w r at) ∙ e) w

  module _ (n : Net) (sound : IsNet n) (goal found : List ℕ) (seen : List Bool) (s : ℕ) (todo : List Frame) (w : IsWalk operand_order (circuit n) goal found seen (Enter s ∷ todo)) where
    abbrev c : Circuit
    c = circuit n

    -- an input that has not been seen is found
    pub enter_input : (r : Bool) → r ≡ get_or seen s r → r ≡ false → find (λ x. x.out == s) n.gates ≡ None → (new : List ℕ) → new ≡ found ++ s ∷ [] →
        IsWalk operand_order c goal new (set seen s true) todo
    enter_input r at e none new grown =
        let low : s < length n.names = w.in_bounds 0 (Enter s) (omega arith) in
        subst (λ xs. IsWalk operand_order c goal xs (set seen s true) todo) (sym grown)
        (found_input (below operand_order c) (length n.names) goal found seen s todo (input_leaves n sound operand_order s low none) (sym (visit_is c goal found seen s todo w r at) ∙ e) w)

    module _ (os : List ℕ) (steps : IsStepsOf operand_order (circuit n) s os) (old pushed new : List Frame) (is_old : reverse old ≡ todo) (is_pushed : pushed ≡ old ++ Leave s ∷ [])
        (is_new : reverse new ≡ entered os (reverse pushed)) where
      stack_is : entered (in_walk_order operand_order c steps.gate.operands) (Leave s ∷ todo) ≡ reverse new
      stack_is =
          ap (λ t. entered (in_walk_order operand_order c steps.gate.operands) (Leave s ∷ t)) (sym is_old) ∙
          sym (is_new ∙ ap (λ xs. entered xs (reverse pushed)) steps.is ∙ ap (λ t. entered (in_walk_order operand_order c steps.gate.operands) (reverse t)) is_pushed ∙ ap (entered (in_walk_order operand_order c steps.gate.operands)) (reverse-append old (Leave s ∷ [])))

      -- a gate is opened
      pub enter_gate : IsWalk operand_order c goal found seen (reverse new)
      enter_gate =
          subst (IsWalk operand_order c goal found seen) stack_is
          (opened (below operand_order c) (length n.names) goal found seen s (in_walk_order operand_order c steps.gate.operands) todo (gate_leaves n sound operand_order s steps.gate steps.found) (steps_inside n sound operand_order s steps.gate steps.found) w)

      -- a gate takes more steps than its operands and its end
      pub fewer_opened : steps_left operand_order c (reverse new) < steps_left operand_order c (Enter s ∷ todo)
      fewer_opened =
          subst (λ t. steps_left operand_order c t < steps_left operand_order c (Enter s ∷ todo)) stack_is
          (omega (arith, steps_more c (Enter s) todo, steps_entered c (in_walk_order operand_order c steps.gate.operands) (Leave s ∷ todo), steps_more c (Leave s) todo, gate_steps n sound operand_order s steps.gate steps.found))

  -- ---- the start, a frame that is taken, and the end

  -- a signal is to be walked
  pub rooted : (c : Circuit) (found : List ℕ) (seen : List Bool) (s : ℕ) (stack new : List Frame) → IsBetweenWalks operand_order c found seen → s < length c.names → stack ≡ [] → new ≡ stack ++ Enter s ∷ [] →
      IsWalk operand_order c (fold with_number found (below operand_order c s)) found seen (reverse new)
  rooted c found seen s stack new w low is_stack is_new =
      let todo : Enter s ∷ [] ≡ reverse new = ap reverse (sym (is_new ∙ ap (λ t. t ++ Enter s ∷ []) is_stack)) in
      subst (IsWalk operand_order c (fold with_number found (below operand_order c s)) found seen) todo
      (record {
        len = w.len;
        reaches_goal = ap (fold with_number found) (append-nil (below operand_order c s));
        visited = w.visited;
        kept = w.kept;
        left_are_found = tt;
        in_bounds = λ i d h. top_low (length c.names) s low i d h;
      })

  -- the stack is empty
  pub ended : (c : Circuit) (goal found : List ℕ) (seen : List Bool) (stack : List Frame) → stack ≡ [] → IsWalk operand_order c goal found seen (reverse stack) → IsBetweenWalks operand_order c found seen × (found ≡ goal)
  ended c goal found seen stack e w =
      let v = subst (λ t. IsWalk operand_order c goal found seen (reverse t)) e w in
      (subst (λ g. IsWalk operand_order c g found seen []) (sym v.reaches_goal) v, v.reaches_goal)

  -- no walk has begun
  pub fresh : (c : Circuit) (seen : List Bool) → seen ≡ replicate (length c.names) false → IsBetweenWalks operand_order c [] seen
  fresh c seen e = subst (IsBetweenWalks operand_order c []) (sym e) (started (below operand_order c) (length c.names) [] [] refl (λ i d low. absurd (omega (arith, low))))

  pub taken_frame : (c : Circuit) (goal found : List ℕ) (seen : List Bool) (old new : List Frame) (f g : Frame) → old ≡ new ++ f ∷ [] → f ≡ g → IsWalk operand_order c goal found seen (reverse old) → IsWalk operand_order c goal found seen (g ∷ reverse new)
  taken_frame c goal found seen old new f g e same w =
      subst (IsWalk operand_order c goal found seen) (ap reverse e ∙ reverse-append new (f ∷ []) ∙ ap (λ h. h ∷ reverse new) same) w

  pub visited_left : (c : Circuit) (goal found : List ℕ) (seen : List Bool) (s : ℕ) (todo : List Frame) → IsWalk operand_order c goal found seen (Leave s ∷ todo) → IsWalk operand_order c goal found (set seen s true) todo
  visited_left c goal found seen s todo w = left (below operand_order c) (length c.names) goal found seen s todo w

  pub leave_low : (c : Circuit) (goal found : List ℕ) (seen : List Bool) (s : ℕ) (todo : List Frame) → IsWalk operand_order c goal found seen (Leave s ∷ todo) → s < length seen
  leave_low c goal found seen s todo w = let low : s < length c.names = w.in_bounds 0 (Leave s) (omega arith) in omega (arith, low, w.len)

  pub enter_low : (c : Circuit) (goal found : List ℕ) (seen : List Bool) (s : ℕ) (todo : List Frame) → IsWalk operand_order c goal found seen (Enter s ∷ todo) → s < length seen
  enter_low c goal found seen s todo w = let low : s < length c.names = w.in_bounds 0 (Enter s) (omega arith) in omega (arith, low, w.len)

-- ---- lists of operands, gate by gate

pub low_operands : (n : Net) → IsNet n → (gates : List GateLine) (i : ℕ) (g : GateLine) (os : List ℕ) → gates ≡ n.gates → i < length gates → g ≡ get_or gates i g → os ≡ g.operands → All (λ s. s < length n.names) os
low_operands n sound gates i g os e low at is_os =
    let there : i < length n.gates = subst (λ gs. i < length gs) e low in
    let here : g ≡ get_or n.gates i g = at ∙ ap (λ gs. get_or gs i g) e in
    subst (All (λ s. s < length n.names)) (sym is_os) (subst (λ h. All (λ s. s < length n.names) h.operands) (sym here) (sound.operands i g there).0)

map_more : (f : GateLine → List ℕ) (xs : List GateLine) (x : GateLine) → map f (xs ++ x ∷ []) ≡ map f xs ++ f x ∷ []
map_more f [] x = refl
map_more f (y ∷ xs) x = ap (λ ys. f y ∷ ys) (map_more f xs x)

pub lists_more : (f : GateLine → List ℕ) (gates : List GateLine) (i : ℕ) (g : GateLine) (old new : List (List ℕ)) (l : List ℕ) → i < length gates → g ≡ get_or gates i g → l ≡ f g → new ≡ old ++ l ∷ [] → old ≡ map f (take i gates) →
    new ≡ map f (take (i + 1) gates)
lists_more f gates i g old new l low at is_l is_new before =
    is_new ∙ ap (λ xs. xs ++ l ∷ []) before ∙ ap (λ x. map f (take i gates) ++ x ∷ []) is_l ∙ sym (map_more f (take i gates) g) ∙
    ap (map f) (sym (take_more gates i g low ∙ ap (λ y. take i gates ++ y ∷ []) (sym at)))

-- ---- the roots

pub low_next : (n : Net) → IsNet n → (registers : List GateLine) (i : ℕ) (g : GateLine) (os : List ℕ) → registers ≡ n.registers → i < length registers → g ≡ get_or registers i g → os ≡ g.operands → All (λ s. s < length n.names) os
low_next n sound registers i g os e low at is_os =
    let there : i < length n.registers = subst (λ gs. i < length gs) e low in
    let here : g ≡ get_or n.registers i g = at ∙ ap (λ gs. get_or gs i g) e in
    subst (All (λ s. s < length n.names)) (sym is_os) (subst (λ h. All (λ s. s < length n.names) h.operands) (sym here) (sound.next i g there).0)

pub next_root : (outs : List ℕ) (registers : List GateLine) (i : ℕ) (g : GateLine) (old new os : List ℕ) → i < length registers → g ≡ get_or registers i g → os ≡ g.operands → new ≡ old ++ os →
    old ≡ outs ++ flat_map (λ h. h.operands) (take i registers) → new ≡ outs ++ flat_map (λ h. h.operands) (take (i + 1) registers)
next_root outs registers i g old new os low at is_os is_new before =
    is_new ∙ ap (λ xs. xs ++ os) before ∙ ap (λ xs. (outs ++ flat_map (λ h. h.operands) (take i registers)) ++ xs) is_os ∙ flat_map_more (λ h. h.operands) outs (take i registers) g ∙
    ap (λ xs. outs ++ flat_map (λ h. h.operands) xs) (sym (take_more registers i g low ∙ ap (λ y. take i registers ++ y ∷ []) (sym at)))

pub low_more : (count : ℕ) (old new os : List ℕ) → new ≡ old ++ os → All (λ s. s < count) old → All (λ s. s < count) os → All (λ s. s < count) new
low_more count old new os is_new h k = subst (All (λ s. s < count)) (sym is_new) (All-append (λ s. s < count) old os h k)

-- ---- signals, one after the other

pub next_output : (below_it : ℕ → List ℕ) (outs found new total : List ℕ) (i s : ℕ) → i < length outs → s ≡ get_or outs i s → new ≡ fold with_number found (below_it s) →
    fold with_number found (flat_map below_it (drop i outs)) ≡ total → fold with_number new (flat_map below_it (drop (i + 1) outs)) ≡ total
next_output below_it outs found new total i s low at is_new e =
    ap (λ xs. fold with_number xs (flat_map below_it (drop (i + 1) outs))) is_new ∙ sym (fold-append with_number found (below_it s) (flat_map below_it (drop (i + 1) outs))) ∙
    sym (ap (λ xs. fold with_number found (flat_map below_it xs)) (drop_more outs i s low ∙ ap (λ x. x ∷ drop (i + 1) outs) (sym at))) ∙ e

pub low_ranked : (n : Net) (outs ranked listed : List ℕ) (i s v count : ℕ) → All (λ t. t < length n.names) outs → ranked ≡ in_walk_order ByRank (circuit n) outs → listed ≡ ranked → i < length listed → s ≡ get_or listed i s → v ≡ s →
    count ≡ length n.names → v < count
low_ranked n outs ranked listed i s v count low_outs is_ranked is_listed low at is_v is_count =
    let all : All (λ t. t < length n.names) listed =
    subst (All (λ t. t < length n.names)) (sym (is_listed ∙ is_ranked)) (taken_all ByRank (circuit n) (λ t. t < length n.names) outs low_outs) in
    let here : s < length n.names = subst (λ t. t < length n.names) (sym at) (all i s low) in
    omega (arith, here, is_v, is_count)

none_left : (xs : List ℕ) (i : ℕ) → length xs ≤ i → drop i xs ≡ []
none_left [] zero h = refl
none_left [] (suc i) h = refl
none_left (x ∷ xs) zero h = absurd (omega (arith, h))
none_left (x ∷ xs) (suc i) h = none_left xs i (omega (arith, h))

pub no_output : (below_it : ℕ → List ℕ) (outs found total : List ℕ) (i : ℕ) → length outs ≤ i → fold with_number found (flat_map below_it (drop i outs)) ≡ total → found ≡ total
no_output below_it outs found total i h e = sym (ap (λ xs. fold with_number found (flat_map below_it xs)) (none_left outs i h)) ∙ e

-- ---- what a look-up says

pub inside_from : (k n : ℕ) → true ≡ nat_lt k n → k < n
inside_from k n e = let yes : nat_lt k n ≡ true = sym e in grind (arith, nat_tests)

pub past_from : (k n : ℕ) → false ≡ nat_lt k n → n ≤ k
past_from k n e = let out : nat_lt k n ≡ false = sym e in grind (arith, nat_tests)
