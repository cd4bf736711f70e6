-- Pairs that are given to shares, those with the largest cones first.
use Rattle.std.proofs.Common.{◌≡◌, inl, inr, ℕ, zero, suc, ◌+◌, ◌<◌, ◌≤◌, List, [], ◌∷◌, ◌++◌, true, false, refl, sym, ap, ◌∙◌, subst, map, length, get_or, arith, All}
use Rattle.std.specs.Prelude.{cond, nat_le, slice_index}
use Rattle.std.specs.List.{AllZip}
use Rattle.std.specs.List.Sorted.{IsPermutation}
use Rattle.std.proofs.lemmas.Bool.{cases_lt}
use Rattle.std.proofs.lemmas.Bool.Decides.{nat_tests}
use Rattle.std.proofs.lemmas.List.{length-append, get_or_append_left}
use Rattle.std.proofs.Math.Seq.{get_or-append_seam}
use Rattle.std.proofs.lemmas.List.Elements.{All-cons, All-map, All-tail}
use Rattle.std.proofs.lemmas.List.Sorted.{All-permutation, length_permutation}
use Rattle.net_bench.specs.Circuit.{HaveNoRepeats, Circuit}
use Rattle.net_cone.specs.Cones.{HasGates}
use Rattle.net_order.specs.Force.{numbers_below}
use Rattle.net_order.specs.Order.{falling, put_by_rank}
use Rattle.compare_built.specs.declared.subject.Subject.{Subject}
use Rattle.compare_built.specs.Comparing.{IsInside}
use Rattle.compare_built.specs.PairSelection.{AreShares, ComesBefore, HasWeight}

-- ---- the numbers below a number

pub numbers_long : (n : ℕ) → length (numbers_below n) ≡ n
unfolding numbers_below
numbers_long zero = refl
numbers_long (suc n) = let rest : length (numbers_below n) ≡ n = numbers_long n in omega (arith, length-append (numbers_below n) (n ∷ []))

pub number_at : (n i d : ℕ) → i < n → get_or (numbers_below n) i d ≡ i
unfolding numbers_below
number_at zero i d low = absurd (omega arith)
number_at (suc n) i d low =
    let long : length (numbers_below n) ≡ n = numbers_long n in
    elim (cases_lt i n) [
      | inl before ↦ get_or_append_left (numbers_below n) (n ∷ []) d i (omega arith) ∙ number_at n i d before
      | inr on ↦
          let last : length (numbers_below n) ≡ i = omega arith in
          subst (λ k. get_or (numbers_below n ++ n ∷ []) k d ≡ n) last (get_or-append_seam (numbers_below n) n [] d) ∙ omega arith
    ]

pub numbers_inside : (n : ℕ) → All (λ i. i < n) (numbers_below n)
numbers_inside n i d low =
    let long : length (numbers_below n) ≡ n = numbers_long n in
    let at : get_or (numbers_below n) i d ≡ i = number_at n i d (omega arith) in
    omega arith

-- each number is less than those after it
abbrev pub Rises : List ℕ → Type 0
Rises [] = Unit {0}
Rises (x ∷ xs) = All (λ y. x < y) xs × Rises xs

rises_from : (xs : List ℕ) (k : ℕ) → ((i d : ℕ) → i < length xs → get_or xs i d ≡ k + i) → Rises xs
rises_from [] k at = tt
rises_from (x ∷ xs) k at = (
  λ i d low.
      let first : x ≡ k + 0 = at 0 0 (omega arith) in
      let there : get_or xs i d ≡ k + suc i = at (suc i) d (omega arith) in
      omega arith,
  rises_from xs (suc k) (λ i d low. let there : get_or xs i d ≡ k + suc i = at (suc i) d (omega arith) in omega arith),
)

pub numbers_rise : (n : ℕ) → Rises (numbers_below n)
numbers_rise n =
    let long : length (numbers_below n) ≡ n = numbers_long n in
    rises_from (numbers_below n) 0 (λ i d low. let at : get_or (numbers_below n) i d ≡ i = number_at n i d (omega arith) in omega arith)

-- ---- by falling weight

-- each place comes before those after it
abbrev pub Descends : List ℕ → List ℕ → Type 0
Descends w [] = Unit {0}
Descends w (x ∷ xs) = All (ComesBefore w x) xs × Descends w xs

all_put : (P : ℕ → Type 0) (rank : ℕ → ℕ) (s : ℕ) (ts : List ℕ) → P s → All P ts → All P (put_by_rank rank s ts)
all_put P rank s [] one all = All-cons P s [] one all
all_put P rank s (t ∷ ts) one all =
    elim (nat_le (rank t) (rank s)) as (λ b. All P (cond b (s ∷ t ∷ ts) (t ∷ put_by_rank rank s ts))) [
      | true ↦ All-cons P s (t ∷ ts) one all
      | false ↦ All-cons P t (put_by_rank rank s ts) (all 0 t (omega arith)) (all_put P rank s ts one (All-tail P t ts all))
    ]

all_falling : (P : ℕ → Type 0) (rank : ℕ → ℕ) (xs : List ℕ) → All P xs → All P (falling rank xs)
all_falling P rank [] all = all
all_falling P rank (x ∷ xs) all = all_put P rank x (falling rank xs) (all 0 x (omega arith)) (all_falling P rank xs (All-tail P x xs all))

before_it : (w : List ℕ) (s t : ℕ) → slice_index w t ≤ slice_index w s → s < t → ComesBefore w s t
before_it w s t high less = elim (cases_lt (slice_index w t) (slice_index w s)) [
  | inl more ↦ inl more
  | inr same ↦ inr (omega arith, less)
]

before_more : (w : List ℕ) (s t o : ℕ) → slice_index w t ≤ slice_index w s → s < o → ComesBefore w t o → ComesBefore w s o
before_more w s t o high less (inl more) = inl (omega arith)
before_more w s t o high less (inr (same, behind)) = before_it w s o (omega arith) less

put_descends : (w : List ℕ) (s : ℕ) (ts : List ℕ) → All (λ t. s < t) ts → Descends w ts → Descends w (put_by_rank (slice_index w) s ts)
put_descends w s [] low d = (λ i e less. absurd (omega arith), tt)
put_descends w s (t ∷ ts) low d =
    elim (nat_le (slice_index w t) (slice_index w s)) as
    (λ b. nat_le (slice_index w t) (slice_index w s) ≡ b → Descends w (cond b (s ∷ t ∷ ts) (t ∷ put_by_rank (slice_index w) s ts))) [
      | true ↦ λ e.
          let high : slice_index w t ≤ slice_index w s = grind (arith, nat_tests) in (
            All-cons (ComesBefore w s) t ts (before_it w s t high (low 0 t (omega arith)))
                (λ i k less. before_more w s t (get_or ts i k) high (low (suc i) k (omega arith)) (d.0 i k less)),
            d,
          )
      | false ↦ λ e.
          let more : slice_index w s < slice_index w t = grind (arith, nat_tests) in (
            all_put (ComesBefore w t) (slice_index w) s ts (inl more) d.0,
            put_descends w s ts (All-tail (λ o. s < o) t ts low) d.1,
          )
    ] refl

falling_descends : (w xs : List ℕ) → Rises xs → Descends w (falling (slice_index w) xs)
falling_descends w [] up = tt
falling_descends w (x ∷ xs) up =
    put_descends w x (falling (slice_index w) xs) (all_falling (λ y. x < y) (slice_index w) xs up.0) (falling_descends w xs up.1)

descends_at : (w xs : List ℕ) → Descends w xs → (t u : ℕ) → t < u → u < length xs → ComesBefore w (slice_index xs t) (slice_index xs u)
descends_at w [] d t u less low = absurd (omega arith)
descends_at w (x ∷ xs) d t zero less low = absurd (omega arith)
descends_at w (x ∷ xs) d zero (suc u) less low = d.0 u 0 (omega arith)
descends_at w (x ∷ xs) d (suc t) (suc u) less low = descends_at w xs d.1 t u (omega arith) (omega arith)

pub order_falls : (w order : List ℕ) → order ≡ falling (slice_index w) (numbers_below (length w)) →
    (t u : ℕ) → t < u → u < length order → ComesBefore w (slice_index order t) (slice_index order u)
order_falls w order is = descends_at w order (subst (Descends w) (sym is) (falling_descends w (numbers_below (length w)) (numbers_rise (length w))))

not_itself : (w : List ℕ) (i j : ℕ) → i ≡ j → ComesBefore w i j → ⊥
not_itself w i j same (inl more) = let e : slice_index w i ≡ slice_index w j = ap (slice_index w) same in omega arith
not_itself w i j same (inr (e, less)) = omega arith

pub order_once : (w order : List ℕ) → ((t u : ℕ) → t < u → u < length order → ComesBefore w (slice_index order t) (slice_index order u)) → HaveNoRepeats order
order_once w order falls t u less low same = not_itself w (slice_index order t) (slice_index order u) same (falls t u less low)

pub order_inside : (n : ℕ) (order : List ℕ) → IsPermutation (numbers_below n) order → All (λ i. i < length order) order
order_inside n order moved =
    let long : length order ≡ n = length_permutation (numbers_below n) order moved ∙ numbers_long n in
    subst (λ k. All (λ i. i < k) order) (sym long) (All-permutation (λ i. i < n) (numbers_below n) order moved (numbers_inside n))

pub order_long : (n : ℕ) (order : List ℕ) → IsPermutation (numbers_below n) order → length order ≡ n
order_long n order moved = length_permutation (numbers_below n) order moved ∙ numbers_long n

-- ---- weights

pub zip_long : {A B : Type 0} (R : A → B → Type 0) (xs : List A) (ys : List B) → AllZip R xs ys → length ys ≡ length xs
zip_long R [] [] all = refl
zip_long R [] (y ∷ ys) all = absurd all
zip_long R (x ∷ xs) [] all = absurd all
zip_long R (x ∷ xs) (y ∷ ys) all = ap suc (zip_long R xs ys all.1)

pub map_long : {A B : Type 0} (f : A → B) (xs : List A) → length (map f xs) ≡ length xs
map_long f [] = refl
map_long f (x ∷ xs) = ap suc (map_long f xs)

pub inside_first : (a b : Circuit) (ss : List Subject) → All (IsInside a b) ss → All (λ s. s < length a.names) (map (λ (s : Subject). s.first) ss)
inside_first a b ss all = All-map (λ s. s < length a.names) (λ (s : Subject). s.first) ss (λ i d low. (all i d low).1)

pub inside_second : (a b : Circuit) (ss : List Subject) → All (IsInside a b) ss → All (λ s. s < length b.names) (map (λ (s : Subject). s.second) ss)
inside_second a b ss all = All-map (λ s. s < length b.names) (λ (s : Subject). s.second) ss (λ i d low. (all i d low).2)

pub weighed : (a b : Circuit) (ss : List Subject) (xs ys zs : List ℕ) → AllZip (HasGates a) (map (λ (s : Subject). s.first) ss) xs → AllZip (HasGates b) (map (λ (s : Subject). s.second) ss) ys →
    length zs ≡ length xs → ((i : ℕ) → i < length xs → slice_index zs i ≡ slice_index xs i + slice_index ys i) → AllZip (HasWeight a b) ss zs
weighed a b [] [] [] [] first second long sums = tt
weighed a b [] [] [] (z ∷ zs) first second long sums = cc
weighed a b [] [] (y ∷ ys) zs first second long sums = absurd second
weighed a b [] (x ∷ xs) ys zs first second long sums = absurd first
weighed a b (s ∷ ss) [] ys zs first second long sums = absurd first
weighed a b (s ∷ ss) (x ∷ xs) [] zs first second long sums = absurd second
weighed a b (s ∷ ss) (x ∷ xs) (y ∷ ys) [] first second long sums = cc
weighed a b (s ∷ ss) (x ∷ xs) (y ∷ ys) (z ∷ zs) first second long sums = (
  record { first_gates = x; second_gates = y; first = first.0; second = second.0; sum = sums 0 (omega arith) },
  weighed a b ss xs ys zs first.1 second.1 (omega arith) (λ i low. sums (suc i) (omega arith)),
)

pub shares_long : (a b : Circuit) (pairs : List Subject) (n : ℕ) (shares : List ℕ) → AreShares a b pairs n shares → length shares ≡ length pairs
shares_long a b pairs n shares are = are.each ∙ zip_long (HasWeight a b) pairs are.weights are.weighed
