-- Each pair is dealt to exactly one share.
use Rattle.std.proofs.Common.{◌≡◌, ◌⊎◌, inl, inr, ℕ, zero, suc, ◌+◌, ◌-◌, ◌/◌, ◌%◌, ◌<◌, ◌≤◌, List, [], ◌∷◌, Bool, true, false, refl, sym, ap, ◌∙◌, subst, length, arith, All}
use Rattle.std.specs.Prelude.{Contains, IsTrue, ◌==◌, cond, count_by, slice_index, ◌↔◌}
use Rattle.std.specs.List.{AllZip}
use Rattle.std.specs.List.Sorted.{IsPermutation}
use Rattle.std.proofs.lemmas.List.{ext_get_or, get_or_default}
use Rattle.std.proofs.lemmas.List.Sums.{sum_by-cons}
use Rattle.std.proofs.lemmas.List.Sorted.{Contains-permutation, IsPermutation-sym}
use Rattle.net_bench.specs.Circuit.{Circuit}
use Rattle.net_bench.specs.declared.netlist.GateLine.{GateLine}
use Rattle.net_cone.specs.Cones.{HasGates, IsBelow}
use Rattle.net_order.specs.Force.{numbers_below}
use Rattle.compare_built.specs.declared.subject.Subject.{Subject}
use Rattle.compare_built.specs.PairSelection.{AreShares, ComesBefore, HasWeight, serpentine_share}
use Rattle.pair_facts.proofs.SerpentineOrder.{number_at, numbers_long, shares_long}

-- ---- the number of a pair's share is in range

within : (n place : ℕ) (b : Bool) → place < n → (1 ≤ cond b (suc place) (n - place)) × (cond b (suc place) (n - place) ≤ n)
within n place true low = (omega arith, omega arith)
within n place false low = (omega arith, omega arith)

pub serpentine_within : (n position : ℕ) → 0 < n → (1 ≤ serpentine_share n position) × (serpentine_share n position ≤ n)
serpentine_within n position some =
    let low : position % n < n = omega arith in
    within n (position % n) (position / n % 2 == 0) low

-- the place of a pair in the order
turn_of : (n : ℕ) (order : List ℕ) → IsPermutation (numbers_below n) order → (i : ℕ) → i < n → (t : ℕ) × (t < length order) × (slice_index order t ≡ i)
turn_of n order moved i low =
    let long = numbers_long n in
    let there : Contains (numbers_below n) i = (i, subst (λ k. i < k) (sym long) low, number_at n i i low) in
    let (t, below, at) = Contains-permutation (numbers_below n) order i moved there in
    (t, below, get_or_default order t 0 i below ∙ at)

module _ (a b : Circuit) (pairs : List Subject) (n : ℕ) (shares : List ℕ) (are : AreShares a b pairs n shares) where
  pub share_at : (i : ℕ) → i < length shares → (t : ℕ) × (t < length are.order) × (slice_index are.order t ≡ i) × (slice_index shares i ≡ serpentine_share n t)
  share_at i low =
      let (t, below, at) = turn_of (length are.weights) are.order are.places i (subst (λ k. i < k) are.each low) in
      (t, below, at, ap (slice_index shares) (sym at) ∙ are.share t below)

  pub shares_within : 0 < n → All (λ k. (1 ≤ k) × (k ≤ n)) shares
  shares_within some i d low =
      let (t, below, at, is) = share_at i low in
      subst (λ k. (1 ≤ k) × (k ≤ n)) (sym is ∙ get_or_default shares i 0 d low) (serpentine_within n t some)

-- ---- all runs deal alike

one_test : (b c : Bool) (P : Type 0) → IsTrue b ↔ P → IsTrue c ↔ P → b ≡ c
one_test true true P f g = refl
one_test true false P f g = sym (g.1 (f.0 refl))
one_test false true P f g = f.1 (g.0 refl)
one_test false false P f g = refl

same_count : (p q : ℕ → Bool) → ((s : ℕ) → p s ≡ q s) → (gs : List GateLine) → count_by (λ g. p g.out) gs ≡ count_by (λ g. q g.out) gs
same_count p q same [] = refl
same_count p q same (g ∷ gs) =
    sum_by-cons (λ (x : GateLine). cond (p x.out) 1 0) g gs ∙ ap (λ k. cond (p g.out) 1 0 + k) (same_count p q same gs) ∙
    ap (λ b. cond b 1 0 + count_by (λ (x : GateLine). q x.out) gs) (same g.out) ∙ sym (sum_by-cons (λ (x : GateLine). cond (q x.out) 1 0) g gs)

one_number : (c : Circuit) (root n m : ℕ) → HasGates c root n → HasGates c root m → n ≡ m
one_number c root n m f g =
    f.count ∙ same_count f.met g.met (λ s. one_test (f.met s) (g.met s) (IsBelow c root s) (f.are_met s) (g.are_met s)) c.gates ∙ sym g.count

one_weight : (a b : Circuit) (s : Subject) (w v : ℕ) → HasWeight a b s w → HasWeight a b s v → w ≡ v
one_weight a b s w v f g =
    let first : f.first_gates ≡ g.first_gates = one_number a s.first f.first_gates g.first_gates f.first g.first in
    let second : f.second_gates ≡ g.second_gates = one_number b s.second f.second_gates g.second_gates f.second g.second in
    let one = f.sum in
    let two = g.sum in
    omega arith

same_weights : (a b : Circuit) (pairs : List Subject) (ws vs : List ℕ) → AllZip (HasWeight a b) pairs ws → AllZip (HasWeight a b) pairs vs → ws ≡ vs
same_weights a b [] [] [] f g = refl
same_weights a b [] [] (v ∷ vs) f g = absurd g
same_weights a b [] (w ∷ ws) vs f g = absurd f
same_weights a b (s ∷ ss) [] vs f g = absurd f
same_weights a b (s ∷ ss) (w ∷ ws) [] f g = absurd g
same_weights a b (s ∷ ss) (w ∷ ws) (v ∷ vs) f g =
    ap (λ x. x ∷ ws) (one_weight a b s w v f.0 g.0) ∙ ap (λ xs. v ∷ xs) (same_weights a b ss ws vs f.1 g.1)

both_ways : (w : List ℕ) (i j : ℕ) → ComesBefore w i j → ComesBefore w j i → ⊥
both_ways w i j (inl f) (inl g) = omega arith
both_ways w i j (inl f) (inr (g, h)) = omega arith
both_ways w i j (inr (f, h)) (inl g) = omega arith
both_ways w i j (inr (f, h)) (inr (g, k)) = omega arith

abbrev InOrder : List ℕ → List ℕ → Type 0
InOrder w xs = (t u : ℕ) → t < u → u < length xs → ComesBefore w (slice_index xs t) (slice_index xs u)

behind : (w : List ℕ) (x : ℕ) (xs : List ℕ) → InOrder w (x ∷ xs) → (o : ℕ) → Contains xs o → ComesBefore w x o
behind w x xs falls o (i, low, at) = subst (ComesBefore w x) (get_or_default xs i 0 o low ∙ at) (falls 0 (suc i) (omega arith) (omega arith))

front_or : (x : ℕ) (xs : List ℕ) (o : ℕ) → Contains (x ∷ xs) o → (x ≡ o) ⊎ Contains xs o
front_or x xs o (zero, low, at) = inl at
front_or x xs o (suc i, low, at) = inr (i, omega arith, at)

-- what comes after the first of one list comes after the first of the other
rest_in : (w : List ℕ) (x y : ℕ) (xs ys : List ℕ) → InOrder w (x ∷ xs) → x ≡ y → ((o : ℕ) → Contains (x ∷ xs) o → Contains (y ∷ ys) o) → (o : ℕ) → Contains xs o → Contains ys o
rest_in w x y xs ys falls same all o (i, low, at) = elim (front_or y ys o (all o (suc i, omega arith, at))) [
  | inl is ↦
      let itself : ComesBefore w o o = subst (λ z. ComesBefore w z o) (same ∙ is) (behind w x xs falls o (i, low, at)) in
      absurd (both_ways w o o itself itself)
  | inr there ↦ there
]

same_first : (w : List ℕ) (x y : ℕ) (xs ys : List ℕ) → InOrder w (x ∷ xs) → InOrder w (y ∷ ys) → Contains (y ∷ ys) x → Contains (x ∷ xs) y → x ≡ y
same_first w x y xs ys f g there here = elim (front_or y ys x there) [
  | inl is ↦ sym is
  | inr later ↦ elim (front_or x xs y here) [
    | inl is ↦ is
    | inr after ↦ absurd (both_ways w x y (behind w x xs f y after) (behind w y ys g x later))
  ]
]

same_order : (w xs ys : List ℕ) → InOrder w xs → InOrder w ys → ((o : ℕ) → Contains xs o → Contains ys o) → ((o : ℕ) → Contains ys o → Contains xs o) → xs ≡ ys
same_order w [] [] f g there here = refl
same_order w [] (y ∷ ys) f g there here = let (i, low, at) = here y (0, omega arith, refl) in absurd (omega arith)
same_order w (x ∷ xs) [] f g there here = let (i, low, at) = there x (0, omega arith, refl) in absurd (omega arith)
same_order w (x ∷ xs) (y ∷ ys) f g there here =
    let same = same_first w x y xs ys f g (there x (0, omega arith, refl)) (here y (0, omega arith, refl)) in
    ap (λ z. z ∷ xs) same ∙
    ap (λ zs. y ∷ zs) (same_order w xs ys (λ t u less low. f (suc t) (suc u) (omega arith) (omega arith)) (λ t u less low. g (suc t) (suc u) (omega arith) (omega arith))
    (rest_in w x y xs ys f same there) (rest_in w y x ys xs g (sym same) here))

-- two orders by the same weights are equal
one_order : (w v one two : List ℕ) → w ≡ v → IsPermutation (numbers_below (length w)) one → IsPermutation (numbers_below (length v)) two → InOrder w one → InOrder v two → one ≡ two
one_order w v one two same p q f g =
    let moved : IsPermutation (numbers_below (length w)) two = subst (λ x. IsPermutation (numbers_below (length x)) two) (sym same) q in
    same_order w one two f (subst (λ x. InOrder x two) (sym same) g)
    (λ o among. Contains-permutation (numbers_below (length w)) two o moved (Contains-permutation one (numbers_below (length w)) o (IsPermutation-sym (numbers_below (length w)) one p) among))
    (λ o among. Contains-permutation (numbers_below (length w)) one o p (Contains-permutation two (numbers_below (length w)) o (IsPermutation-sym (numbers_below (length w)) two moved) among))

pub one_dealing : (a b : Circuit) (pairs : List Subject) (n : ℕ) (shares others : List ℕ) → AreShares a b pairs n shares → AreShares a b pairs n others → shares ≡ others
one_dealing a b pairs n shares others f g =
    let order : f.order ≡ g.order = one_order f.weights g.weights f.order g.order (same_weights a b pairs f.weights g.weights f.weighed g.weighed) f.places g.places f.falls g.falls in
    let long : length shares ≡ length others = shares_long a b pairs n shares f ∙ sym (shares_long a b pairs n others g) in
    ext_get_or 0 shares others long
    (λ i low.
    let (t, below, at, is) = share_at a b pairs n shares f i low in
    let there : t < length g.order = subst (λ (o : List ℕ). t < length o) order below in
    is ∙ sym (g.share t there) ∙ ap (slice_index others) (ap (λ (o : List ℕ). slice_index o t) (sym order) ∙ at))
