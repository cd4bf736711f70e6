-- Functions of the bits by level, at assignments in declared order.
use Rattle.std.proofs.Common.{◌≡◌, ℕ, zero, suc, ◌<◌, ◌≤◌, Bool, true, false, List, [], ◌∷◌, ◌⊎◌, inl, inr, length, get_or, replicate, ◌↔◌, refl, sym, ◌∙◌, ap, subst, arith}
use Rattle.std.proofs.Math.ListN.{set, length-replicate}
use Rattle.std.proofs.lemmas.Bool.{cases_eq, cases_lt}
use Rattle.std.proofs.lemmas.List.{length-map, length-set, get_or-set_same, get_or-set_other, ext_get_or}
use Rattle.dd_store.specs.Functions.{Agree, Before, IsLeastDifference}
use Rattle.dd_store.specs.Functions.Before.{first, later}
use Rattle.counter_walk.specs.DeclaredOrder.{IsOrder, assignment_by_level, by_declared, IsLeastDifferenceDeclared}

pub length-assignment_by_level : (order : List ℕ) (x : List Bool) → length (assignment_by_level order x) ≡ length order
length-assignment_by_level order x = length-map order (λ d. get_or x d false)

pub get_or-assignment_by_level : (order : List ℕ) (x : List Bool) (v : ℕ) → v < length order
    → get_or (assignment_by_level order x) v false ≡ get_or x (get_or order v 0) false
get_or-assignment_by_level [] x v lt = absurd (omega arith)
get_or-assignment_by_level (d ∷ ds) x zero lt = refl
get_or-assignment_by_level (d ∷ ds) x (suc v) lt = get_or-assignment_by_level ds x v (omega arith)

-- the bit of a declared variable is that of its level
pub assignment_by_level-set : (n : ℕ) (order : List ℕ) (x : List Bool) (v : ℕ) (b : Bool) → IsOrder n order → v < n → length x ≡ n
    → assignment_by_level order (set x (get_or order v 0) b) ≡ set (assignment_by_level order x) v b
assignment_by_level-set n order x v b o lt len =
    let d : ℕ = get_or order v 0 in
    ext_get_or false (assignment_by_level order (set x d b)) (set (assignment_by_level order x) v b)
    (length-assignment_by_level order (set x d b) ∙ sym (length-assignment_by_level order x) ∙ sym (length-set (assignment_by_level order x) v b))
    (λ i l.
    let long : length (assignment_by_level order (set x d b)) ≡ length order = length-assignment_by_level order (set x d b) in
    get_or-assignment_by_level order (set x d b) i (omega arith) ∙ at i (omega arith))
  where
    at : (i : ℕ) → i < length order
        → get_or (set x (get_or order v 0) b) (get_or order i 0) false ≡ get_or (set (assignment_by_level order x) v b) i false
    at i within =
        let full : length order ≡ n = o.each_level in
        let declared : get_or order v 0 < n = o.declared v lt in
        let wide : length (assignment_by_level order x) ≡ length order = length-assignment_by_level order x in
        elim (cases_eq i v) [
          | inl same ↦
              ap (λ k. get_or (set x (get_or order v 0) b) (get_or order k 0) false) same
              ∙ get_or-set_same x (get_or order v 0) b false (omega arith)
              ∙ sym (get_or-set_same (assignment_by_level order x) v b false (omega arith))
              ∙ ap (λ k. get_or (set (assignment_by_level order x) v b) k false) (sym same)
          | inr other ↦
              get_or-set_other x (get_or order v 0) (get_or order i 0) b false (λ e. other (o.once i v (omega arith) lt e))
              ∙ sym (get_or-assignment_by_level order x i within)
              ∙ sym (get_or-set_other (assignment_by_level order x) v i b false other)
        ]

-- ---- an assignment in declared order for one by level

-- the bits of the first k levels, each for its variable
declared_of : ℕ → List ℕ → List Bool → ℕ → List Bool
declared_of n order y zero = replicate n false
declared_of n order y (suc k) = set (declared_of n order y k) (get_or order k 0) (get_or y k false)

length-declared_of : (n : ℕ) (order : List ℕ) (y : List Bool) (k : ℕ) → length (declared_of n order y k) ≡ n
unfolding declared_of
length-declared_of n order y zero = length-replicate n false
length-declared_of n order y (suc k) =
    length-set (declared_of n order y k) (get_or order k 0) (get_or y k false) ∙ length-declared_of n order y k

get_or-declared_of : (n : ℕ) (order : List ℕ) (y : List Bool) → IsOrder n order → (k u : ℕ) → k ≤ n → u < k
    → get_or (declared_of n order y k) (get_or order u 0) false ≡ get_or y u false
unfolding declared_of
get_or-declared_of n order y o zero u le lt = absurd (omega arith)
get_or-declared_of n order y o (suc k) u le lt =
    let before : List Bool = declared_of n order y k in
    let wide : length (declared_of n order y k) ≡ n = length-declared_of n order y k in
    let declared : get_or order k 0 < n = o.declared k (omega arith) in
    elim (cases_lt u k) [
      | inl less ↦
          get_or-set_other before (get_or order k 0) (get_or order u 0) (get_or y k false) false
          (λ e. let same : u ≡ k = o.once u k (omega arith) (omega arith) e in absurd (omega arith))
          ∙ get_or-declared_of n order y o k u (omega arith) less
      | inr last ↦
          let at : k ≡ u = omega arith in
          subst (λ m. get_or (set before (get_or order k 0) (get_or y k false)) (get_or order m 0) false ≡ get_or y m false) at
          (get_or-set_same before (get_or order k 0) (get_or y k false) false (omega arith))
    ]

pub arranged_from : (n : ℕ) (order : List ℕ) (y : List Bool) → IsOrder n order → length y ≡ n
    → (x : List Bool) × (length x ≡ n) × (assignment_by_level order x ≡ y)
arranged_from n order y o len =
    let x : List Bool = declared_of n order y n in
    let full : length order ≡ n = o.each_level in
    let long : length (assignment_by_level order x) ≡ length order = length-assignment_by_level order x in (
      x,
      length-declared_of n order y n,
      ext_get_or false (assignment_by_level order x) y (omega arith)
          (λ i lt. get_or-assignment_by_level order x i (omega arith) ∙ get_or-declared_of n order y o n i (omega arith) (omega arith)),
    )

-- ---- the same assignment whatever the order of the levels

below : (b : Bool) (x y : List Bool) → (x ≡ y) ⊎ (Before x y ⊎ Before y x)
    → ((b ∷ x) ≡ (b ∷ y)) ⊎ (Before (b ∷ x) (b ∷ y) ⊎ Before (b ∷ y) (b ∷ x))
below b x y (inl same) = inl (ap (λ z. b ∷ z) same)
below b x y (inr (inl before)) = inr (inl (later before))
below b x y (inr (inr before)) = inr (inr (later before))

before_cases : (x y : List Bool) → length x ≡ length y → (x ≡ y) ⊎ (Before x y ⊎ Before y x)
before_cases [] [] e = inl refl
before_cases [] (b ∷ y) e = absurd (omega arith)
before_cases (b ∷ x) [] e = absurd (omega arith)
before_cases (false ∷ x) (true ∷ y) e = inr (inl first)
before_cases (true ∷ x) (false ∷ y) e = inr (inr first)
before_cases (true ∷ x) (true ∷ y) e = below true x y (before_cases x y (omega arith))
before_cases (false ∷ x) (false ∷ y) e = below false x y (before_cases x y (omega arith))

-- two functions have at most one least difference
pub least_once : (n : ℕ) (f g : List Bool → Bool) (x y : List Bool) → IsLeastDifference n f g x → IsLeastDifference n f g y → x ≡ y
least_once n f g x y k m = elim (before_cases x y (k.bits ∙ sym m.bits)) [
  | inl same ↦ same
  | inr (inl before) ↦ absurd (k.differ (m.least x k.bits before))
  | inr (inr before) ↦ absurd (m.differ (k.least y m.bits before))
]

-- equal functions have the same least difference
least_alike : (n : ℕ) (f g f' g' : List Bool → Bool) (x : List Bool) → Agree n f f' → Agree n g g' → IsLeastDifference n f g x
    → IsLeastDifference n f' g' x
least_alike n f g f' g' x af ag k = record {
  bits = k.bits;
  differ = λ e. k.differ (af x k.bits ∙ e ∙ sym (ag x k.bits));
  least = λ y len before. sym (af y len) ∙ k.least y len before ∙ ag y len;
}

-- two orders of the levels give the same assignment if the functions of the bits in declared order are the same
pub one_in_all_orders : (n : ℕ) (order order' : List ℕ) (f g f' g' : List Bool → Bool) (x y : List Bool)
    → Agree n (by_declared order f) (by_declared order' f')
    → Agree n (by_declared order g) (by_declared order' g') → IsLeastDifferenceDeclared n order f g x → IsLeastDifferenceDeclared n order' f' g' y → x ≡ y
one_in_all_orders n order order' f g f' g' x y af ag k m =
    least_once n (by_declared order' f') (by_declared order' g') x y (least_alike n (by_declared order f) (by_declared order g) (by_declared order' f') (by_declared order' g') x af ag k) m

-- ---- the order of the levels

-- if each variable is at its own level, an assignment by level is the one in declared order
pub assignment_by_level-same : (n : ℕ) (order : List ℕ) (x : List Bool) → length order ≡ n → ((v : ℕ) → v < n → get_or order v 0 ≡ v) → length x ≡ n
    → assignment_by_level order x ≡ x
assignment_by_level-same n order x full own len =
    ext_get_or false (assignment_by_level order x) x (length-assignment_by_level order x ∙ full ∙ sym len)
    (λ i lt. let long : length (assignment_by_level order x) ≡ length order = length-assignment_by_level order x in
    get_or-assignment_by_level order x i (omega arith) ∙ ap (λ k. get_or x k false) (own i (omega arith)))

-- if each variable is at its own level, the least difference in declared order is that by level
pub least_by_level : (n : ℕ) (order : List ℕ) (f g : List Bool → Bool) (bits : List Bool) → length order ≡ n
    → ((v : ℕ) → v < n → get_or order v 0 ≡ v)
    → IsLeastDifferenceDeclared n order f g bits ↔ IsLeastDifference n f g bits
least_by_level n order f g bits full own = (
  least_alike n (by_declared order f) (by_declared order g) f g bits (at f) (at g),
  least_alike n f g (by_declared order f) (by_declared order g) bits (λ y len. sym (at f y len)) (λ y len. sym (at g y len)),
)
  where
    at : (h : List Bool → Bool) → Agree n (by_declared order h) h
    at h y len = ap h (assignment_by_level-same n order y full own len)
