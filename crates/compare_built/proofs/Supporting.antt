-- On which variables functions depend: of functions that agree, and of functions of what is picked.
use Rattle.std.proofs.Common.{◌≡◌, ◌≢◌, ◌∙◌, ap, sym, refl, subst, arith, inl, inr, ◌⊎◌, ℕ, zero, suc, ◌+◌, ◌<◌, Bool, true, false, List, [], ◌∷◌, ◌++◌, length, get_or, replicate, take, drop}
use Rattle.std.specs.Prelude.{◌↔◌, set}
use Rattle.std.proofs.Math.ListN.{length-replicate}
use Rattle.std.proofs.lemmas.Bool.{cases_eq, true≢false}
use Rattle.std.proofs.lemmas.List.{ext_get_or, length-append, length-set, get_or-set_same, get_or-set_other, get_or-replicate}
use Rattle.dd_store.specs.Functions.{Agree, DependsOn}
use Rattle.counter_walk.specs.Support.{IsSupportOf}
use Rattle.net_cone.specs.Spreading.{bits_at}
use Rattle.net_cone.proofs.Spreading.{length-bits_at, bit-bits_at}
use Rattle.compare_built.specs.Scatter.{scattered}
use Rattle.compare_built.proofs.Scattering.{length-scattered, was_or_set, with_bits}

-- ---- functions that agree

depends_as : (n v : ℕ) (f g : List Bool → Bool) → Agree n f g → DependsOn n v f → DependsOn n v g
depends_as n v f g same d =
    let long : (b : Bool) → length (d.0 ++ b ∷ d.1) ≡ n = λ b. length-append d.0 (b ∷ d.1) ∙ (ap (λ k. k + suc (length d.1)) d.2 ∙ d.3) in
    (d.0, d.1, d.2, d.3, λ e. d.4 (same (d.0 ++ false ∷ d.1) (long false) ∙ (e ∙ sym (same (d.0 ++ true ∷ d.1) (long true)))))

either_as : (n v : ℕ) (f g f' g' : List Bool → Bool) → Agree n f f' → Agree n g g' → DependsOn n v f ⊎ DependsOn n v g → DependsOn n v f' ⊎ DependsOn n v g'
either_as n v f g f' g' same other (inl d) = inl (depends_as n v f f' same d)
either_as n v f g f' g' same other (inr d) = inr (depends_as n v g g' other d)

pub levels_as : (n : ℕ) (f g f' g' : List Bool → Bool) (levels : List Bool) → Agree n f f' → Agree n g g' → IsSupportOf n f g levels → IsSupportOf n f' g' levels
levels_as n f g f' g' levels same other are = record {
  each_level = are.each_level;
  marked = λ v low. (
    λ e. either_as n v f g f' g' same other ((are.marked v low).0 e),
    λ d. (are.marked v low).1 (either_as n v f' g' f g (λ x len. sym (same x len)) (λ x len. sym (other x len)) d),
  );
}

same_bit : (a b : Bool) → (a ≡ true → b ≡ true) → (b ≡ true → a ≡ true) → a ≡ b
same_bit true b h k = sym (h refl)
same_bit false true h k = k refl
same_bit false false h k = refl

-- the levels are determined
pub one_levels : (n : ℕ) (f g : List Bool → Bool) (levels more : List Bool) → IsSupportOf n f g levels → IsSupportOf n f g more → levels ≡ more
one_levels n f g levels more are too =
    ext_get_or false levels more (are.each_level ∙ sym too.each_level)
    (λ i low. let below : i < n = subst (λ k. i < k) are.each_level low in
    same_bit (get_or levels i false) (get_or more i false) (λ e. (too.marked i below).1 ((are.marked i below).0 e)) (λ e. (are.marked i below).1 ((too.marked i below).0 e)))

-- ---- by a bit that is set

set_middle : (q : List Bool) (c b : Bool) (r : List Bool) → set (q ++ c ∷ r) (length q) b ≡ q ++ b ∷ r
set_middle [] c b r = refl
set_middle (a ∷ q) c b r = ap (λ l. a ∷ l) (set_middle q c b r)

set_split : (x : List Bool) (v : ℕ) (b : Bool) → v < length x → set x v b ≡ take v x ++ b ∷ drop (suc v) x
set_split [] v b low = absurd (omega (arith, low))
set_split (a ∷ x) zero b low = refl
set_split (a ∷ x) (suc v) b low = ap (λ l. a ∷ l) (set_split x v b (omega (arith, low)))

front_long : (x : List Bool) (v : ℕ) → v < length x → length (take v x) ≡ v
front_long [] v low = absurd (omega (arith, low))
front_long (a ∷ x) zero low = refl
front_long (a ∷ x) (suc v) low = ap suc (front_long x v (omega (arith, low)))

rest_long : (x : List Bool) (v : ℕ) → v < length x → v + suc (length (drop (suc v) x)) ≡ length x
rest_long [] v low = absurd (omega (arith, low))
rest_long (a ∷ x) zero low = omega arith
rest_long (a ∷ x) (suc v) low = let rest = rest_long x v (omega (arith, low)) in omega (arith, rest)

-- f differs at an assignment of n bits with this bit 0 and 1
abbrev IsReadAt : ℕ → ℕ → (List Bool → Bool) → Type 0
IsReadAt n v f = (x : List Bool) × (length x ≡ n) × (v < n) × (f (set x v false) ≢ f (set x v true))

by_set : (n v : ℕ) (f : List Bool → Bool) → DependsOn n v f → IsReadAt n v f
by_set n v f d =
    let long : length (d.0 ++ false ∷ d.1) ≡ n = length-append d.0 (false ∷ d.1) ∙ (ap (λ k. k + suc (length d.1)) d.2 ∙ d.3) in
    let at : (b : Bool) → set (d.0 ++ false ∷ d.1) v b ≡ d.0 ++ b ∷ d.1 = λ b. ap (λ k. set (d.0 ++ false ∷ d.1) k b) (sym d.2) ∙ set_middle d.0 false b d.1 in
    let whole = d.3 in
    (d.0 ++ false ∷ d.1, long, omega (arith, whole), λ e. d.4 (ap f (sym (at false)) ∙ (e ∙ ap f (at true))))

from_set : (n v : ℕ) (f : List Bool → Bool) → IsReadAt n v f → DependsOn n v f
from_set n v f d =
    let low : v < length d.0 = subst (λ k. v < k) (sym d.1) d.2 in
    (take v d.0, drop (suc v) d.0, front_long d.0 v low, rest_long d.0 v low ∙ d.1, λ e. d.3 (ap f (set_split d.0 v false low) ∙ (e ∙ ap f (sym (set_split d.0 v true low)))))

-- ---- places apart

-- the places are below n and distinct
pub record AreApart (n : ℕ) (places : List ℕ) : Type 0 where
  pub below : (i : ℕ) → i < length places → get_or places i 0 < n
  pub apart : (i j : ℕ) → i < length places → j < length places → get_or places i 0 ≡ get_or places j 0 → i ≡ j

-- a value is at a place, or at none
find_place : (places : List ℕ) (v : ℕ) → ((i : ℕ) × (i < length places) × (get_or places i 0 ≡ v)) ⊎ ((j : ℕ) → j < length places → get_or places j 0 ≢ v)
find_place [] v = inr (λ j low. absurd (omega (arith, low)))
find_place (l ∷ places) v = elim (cases_eq l v) [
  | inl same ↦ inl (0, omega arith, same)
  | inr other ↦ elim (find_place places v) [
    | inl (i, low, at) ↦ inl (suc i, omega (arith, low), at)
    | inr none ↦ inr (nowhere other none)
  ]
]
  where
    nowhere : l ≢ v → ((j : ℕ) → j < length places → get_or places j 0 ≢ v) → (j : ℕ) → j < length (l ∷ places) → get_or (l ∷ places) j 0 ≢ v
    nowhere other none zero low = other
    nowhere other none (suc j) low = none j (omega (arith, low))

-- a bit that is set at no place is not picked
pick_elsewhere : (places : List ℕ) (x : List Bool) (v : ℕ) (b : Bool) → ((j : ℕ) → j < length places → get_or places j 0 ≢ v) → bits_at places (set x v b) ≡ bits_at places x
pick_elsewhere places x v b none =
    let one : length (bits_at places (set x v b)) ≡ length places = length-bits_at places (set x v b) in
    let two : length (bits_at places x) ≡ length places = length-bits_at places x in
    ext_get_or false (bits_at places (set x v b)) (bits_at places x) (one ∙ sym two)
    (λ j low. let within : j < length places = subst (λ k. j < k) one low in
    bit-bits_at places (set x v b) j within ∙ (get_or-set_other x v (get_or places j 0) b false (none j within) ∙ sym (bit-bits_at places x j within)))

module _ (n : ℕ) (places : List ℕ) (are : AreApart n places) where
  -- a bit that is set at a place is set in what is picked
  pick_set : (x : List Bool) (i : ℕ) (b : Bool) → length x ≡ n → i < length places → bits_at places (set x (get_or places i 0) b) ≡ set (bits_at places x) i b
  pick_set x i b long low =
      let l = get_or places i 0 in
      let there : l < length x = subst (λ k. l < k) (sym long) (are.below i low) in
      let one : length (bits_at places (set x l b)) ≡ length places = length-bits_at places (set x l b) in
      let two : length (bits_at places x) ≡ length places = length-bits_at places x in
      ext_get_or false (bits_at places (set x l b)) (set (bits_at places x) i b) (one ∙ (sym two ∙ sym (length-set (bits_at places x) i b)))
      (λ j less. let within : j < length places = subst (λ k. j < k) one less in
      bit-bits_at places (set x l b) j within ∙ elim (cases_eq j i) [
        | inl same ↦
            ap (λ k. get_or (set x l b) (get_or places k 0) false) same ∙ (get_or-set_same x l b false there
            ∙ (sym (get_or-set_same (bits_at places x) i b false (subst (λ k. i < k) (sym two) low)) ∙ ap (λ k. get_or (set (bits_at places x) i b) k false) (sym same)))
        | inr other ↦
            get_or-set_other x l (get_or places j 0) b false (λ e. other (are.apart j i within low e))
            ∙ (sym (bit-bits_at places x j within) ∙ sym (get_or-set_other (bits_at places x) i j b false other))
      ])

  -- ---- what is spread over them

  before_apart : (bits : List Bool) (ls : List ℕ) (x : List Bool) (u : ℕ) → ((j : ℕ) → j < length ls → u ≢ get_or ls j 0) → get_or (with_bits bits ls x) u false ≡ get_or bits u false
  before_apart bits [] x u h = refl
  before_apart bits (l ∷ ls) [] u h = refl
  before_apart bits (l ∷ ls) (b ∷ x) u h =
      before_apart (set bits l b) ls x u (λ j low. h (suc j) (omega (arith, low))) ∙ get_or-set_other bits l u b false (h 0 (omega arith))

  at_apart : (bits : List Bool) (ls : List ℕ) (x : List Bool) (i : ℕ) → ((j : ℕ) → j < length ls → get_or ls j 0 < length bits) →
      ((j k : ℕ) → j < length ls → k < length ls → get_or ls j 0 ≡ get_or ls k 0 → j ≡ k) → length x ≡ length ls → i < length ls → get_or (with_bits bits ls x) (get_or ls i 0) false ≡ get_or x i false
  at_apart bits [] x i below apart long low = absurd (omega (arith, low))
  at_apart bits (l ∷ ls) [] i below apart long low = absurd (omega (arith, long))
  at_apart bits (l ∷ ls) (b ∷ x) zero below apart long low =
      before_apart (set bits l b) ls x l (λ j less e. let same : 0 ≡ suc j = apart 0 (suc j) (omega arith) (omega (arith, less)) e in absurd (omega (arith, same))) ∙ get_or-set_same bits l b false (below 0 (omega arith))
  at_apart bits (l ∷ ls) (b ∷ x) (suc i) below apart long low =
      at_apart (set bits l b) ls x i
      (λ j less. subst (λ k. get_or ls j 0 < k) (sym (length-set bits l b)) (below (suc j) (omega (arith, less))))
      (λ j k less more e. let same : suc j ≡ suc k = apart (suc j) (suc k) (omega (arith, less)) (omega (arith, more)) e in omega (arith, same)) (omega (arith, long)) (omega (arith, low))

  scattered_apart : (x : List Bool) (i : ℕ) → length x ≡ length places → i < length places → get_or (scattered n places x) (get_or places i 0) false ≡ get_or x i false
  scattered_apart x i long low = at_apart (replicate n false) places x i (λ j less. subst (λ k. get_or places j 0 < k) (sym (length-replicate n false)) (are.below j less)) are.apart long low

  pick_scattered : (x : List Bool) → length x ≡ length places → bits_at places (scattered n places x) ≡ x
  pick_scattered x long =
      let size : length (bits_at places (scattered n places x)) ≡ length places = length-bits_at places (scattered n places x) in
      ext_get_or false (bits_at places (scattered n places x)) x (size ∙ sym long)
      (λ i low. let within : i < length places = subst (λ k. i < k) size low in
      bit-bits_at places (scattered n places x) i within ∙ scattered_apart x i long within)

  -- ---- functions of what is picked

  depends_picked : (i : ℕ) (f : List Bool → Bool) → i < length places → DependsOn (length places) i f → DependsOn n (get_or places i 0) (λ x. f (bits_at places x))
  depends_picked i f low d =
      let r = by_set (length places) i f d in
      let y = scattered n places r.0 in
      let at : (b : Bool) → bits_at places (set y (get_or places i 0) b) ≡ set r.0 i b = λ b. pick_set y i b (length-scattered n places r.0) low ∙ ap (λ z. set z i b) (pick_scattered r.0 r.1) in
      from_set n (get_or places i 0) (λ x. f (bits_at places x)) (y, length-scattered n places r.0, are.below i low, λ e. r.3 (ap f (sym (at false)) ∙ (e ∙ ap f (at true))))

  picked_depends : (i : ℕ) (f : List Bool → Bool) → i < length places → DependsOn n (get_or places i 0) (λ x. f (bits_at places x)) → DependsOn (length places) i f
  picked_depends i f low d =
      let r = by_set n (get_or places i 0) (λ x. f (bits_at places x)) d in
      from_set (length places) i f (bits_at places r.0, length-bits_at places r.0, low, λ e. r.3 (ap f (pick_set r.0 i false r.1 low) ∙ (e ∙ ap f (sym (pick_set r.0 i true r.1 low)))))

  depends_elsewhere : (v : ℕ) (f : List Bool → Bool) → ((j : ℕ) → j < length places → get_or places j 0 ≢ v) → DependsOn n v (λ x. f (bits_at places x)) → ⊥
  depends_elsewhere v f none d =
      let r = by_set n v (λ x. f (bits_at places x)) d in
      r.3 (ap f (pick_elsewhere places r.0 v false none ∙ sym (pick_elsewhere places r.0 v true none)))

  either_picked : (i : ℕ) (f g : List Bool → Bool) → i < length places → DependsOn (length places) i f ⊎ DependsOn (length places) i g → DependsOn n (get_or places i 0) (λ x. f (bits_at places x)) ⊎ DependsOn n (get_or places i 0) (λ x. g (bits_at places x))
  either_picked i f g low (inl d) = inl (depends_picked i f low d)
  either_picked i f g low (inr d) = inr (depends_picked i g low d)

  picked_either : (i : ℕ) (f g : List Bool → Bool) → i < length places → DependsOn n (get_or places i 0) (λ x. f (bits_at places x)) ⊎ DependsOn n (get_or places i 0) (λ x. g (bits_at places x)) → DependsOn (length places) i f ⊎ DependsOn (length places) i g
  picked_either i f g low (inl d) = inl (picked_depends i f low d)
  picked_either i f g low (inr d) = inr (picked_depends i g low d)

  neither_elsewhere : (v : ℕ) (f g : List Bool → Bool) → ((j : ℕ) → j < length places → get_or places j 0 ≢ v) → DependsOn n v (λ x. f (bits_at places x)) ⊎ DependsOn n v (λ x. g (bits_at places x)) → ⊥
  neither_elsewhere v f g none (inl d) = depends_elsewhere v f none d
  neither_elsewhere v f g none (inr d) = depends_elsewhere v g none d

  zero_elsewhere : (levels : List Bool) (v : ℕ) → v < n → ((j : ℕ) → j < length places → get_or places j 0 ≢ v) → get_or (scattered n places levels) v false ≡ true → ⊥
  zero_elsewhere levels v low none e = elim (was_or_set (replicate n false) places levels v e) [
    | inl was ↦ true≢false (sym was ∙ get_or-replicate n v false false low)
    | inr (j, within, at) ↦ none j within at
  ]

  -- the levels on which functions depend, spread, are those on which the functions of what is picked do
  pub levels_scattered : (f g : List Bool → Bool) (levels : List Bool) → IsSupportOf (length places) f g levels → IsSupportOf n (λ x. f (bits_at places x)) (λ x. g (bits_at places x)) (scattered n places levels)
  levels_scattered f g levels of = record {
    each_level = length-scattered n places levels;
    marked = λ v low. elim (find_place places v) [
      | inl (i, within, at) ↦ subst (λ k. (get_or (scattered n places levels) k false ≡ true) ↔ (DependsOn n k (λ x. f (bits_at places x)) ⊎ DependsOn n k (λ x. g (bits_at places x)))) at (
        λ e. either_picked i f g within ((of.marked i within).0 (sym (scattered_apart levels i of.each_level within) ∙ e)),
        λ d. scattered_apart levels i of.each_level within ∙ (of.marked i within).1 (picked_either i f g within d),
      )
      | inr none ↦ (λ e. absurd (zero_elsewhere levels v low none e), λ d. absurd (neither_elsewhere v f g none d))
    ];
  }
