-- Assignments of which the bits at some places are picked, and assignments that are spread over more places.
use Rattle.std.proofs.Common.{◌≡◌, ◌∙◌, ap, sym, refl, subst, arith, inl, inr, ◌⊎◌, ℕ, zero, suc, ◌<◌, Bool, true, false, List, [], ◌∷◌}
use Rattle.std.proofs.Common.{length, get_or, replicate, All}
use Rattle.std.specs.Prelude.{◌↔◌, fold, zip, set, IsTrue}
use Rattle.std.proofs.Math.ListN.{length-replicate}
use Rattle.std.proofs.lemmas.Bool.{cases_eq, true≢false}
use Rattle.std.proofs.lemmas.List.{ext_get_or, length-set, get_or-set_same, get_or-set_other, get_or-replicate}
use Rattle.dd_store.specs.Functions.{Before}
use Rattle.dd_store.specs.Functions.Before.{first, later}
use Rattle.net_cone.specs.Spreading.{bits_at}
use Rattle.net_cone.proofs.Spreading.{length-bits_at, bit-bits_at}
use Rattle.compare_built.specs.Conditions.{AgreeWhere, IsLeastWhere}
use Rattle.compare_built.specs.Scatter.{ArePlaces, scattered, with_bit}

-- ---- bits that are set one after the other

abbrev pub with_bits : List Bool → (places : List ℕ) → List Bool → List Bool
with_bits bits places x = fold with_bit bits (zip places x)

pub as_long : (bits : List Bool) (ats : List (ℕ × Bool)) → length (fold with_bit bits ats) ≡ length bits
as_long bits [] = refl
as_long bits (at ∷ ats) = as_long (set bits at.0 at.1) ats ∙ length-set bits at.0 at.1

-- a bit before all places does not change
before_all : (bits : List Bool) (places : List ℕ) (x : List Bool) (u : ℕ) → ((j : ℕ) → j < length places → u < get_or places j 0) →
    get_or (with_bits bits places x) u false ≡ get_or bits u false
before_all bits [] x u h = refl
before_all bits (l ∷ places) [] u h = refl
before_all bits (l ∷ places) (b ∷ x) u h =
    let less : u < l = h 0 (omega arith) in
    before_all (set bits l b) places x u (λ j low. h (suc j) (omega arith)) ∙ get_or-set_other bits l u b false (λ e. absurd (omega (arith, less, e)))

-- a bit that is 1 was 1, or is at a place
pub was_or_set : (bits : List Bool) (places : List ℕ) (x : List Bool) (u : ℕ) → get_or (with_bits bits places x) u false ≡ true →
    (get_or bits u false ≡ true) ⊎ ((j : ℕ) × (j < length places) × (get_or places j 0 ≡ u))
was_or_set bits [] x u e = inl e
was_or_set bits (l ∷ places) [] u e = inl e
was_or_set bits (l ∷ places) (b ∷ x) u e = elim (was_or_set (set bits l b) places x u e) [
  | inl was ↦ elim (cases_eq u l) [
    | inl same ↦ inr (0, omega arith, sym same)
    | inr other ↦ inl (sym (get_or-set_other bits l u b false other) ∙ was)
  ]
  | inr (j, low, at) ↦ inr (suc j, omega (arith, low), at)
]

-- each place has its bit, if the places rise
at_its_place : (bits : List Bool) (places : List ℕ) (x : List Bool) (i : ℕ) → All (λ l. l < length bits) places →
    ((i j : ℕ) → i < j → j < length places → get_or places i 0 < get_or places j 0) → length x ≡ length places → i < length places →
    get_or (with_bits bits places x) (get_or places i 0) false ≡ get_or x i false
at_its_place bits [] x i below rising long low = absurd (omega arith)
at_its_place bits (l ∷ places) [] i below rising long low = absurd (omega arith)
at_its_place bits (l ∷ places) (b ∷ x) zero below rising long low =
    before_all (set bits l b) places x l (λ j less. rising 0 (suc j) (omega arith) (omega arith)) ∙ get_or-set_same bits l b false (below 0 0 (omega arith))
at_its_place bits (l ∷ places) (b ∷ x) (suc i) below rising long low =
    at_its_place (set bits l b) places x i
    (λ j d less. subst (λ n. get_or places j d < n) (sym (length-set bits l b)) (below (suc j) d (omega arith)))
    (λ j k less within. rising (suc j) (suc k) (omega arith) (omega arith)) (omega arith) (omega arith)

-- ---- lexicographic order

-- one assignment has 0 where the other has 1, and they agree before
record AreApartAt (y x : List Bool) (u : ℕ) : Type 0 where
  below : u < length y
  zero_there : get_or y u false ≡ false
  one_there : get_or x u false ≡ true
  same : (i : ℕ) → i < u → get_or y i false ≡ get_or x i false

first_apart : {y x : List Bool} → Before y x → (u : ℕ) × AreApartAt y x u
first_apart (first {x = y} {y = x}) = (0, record { below = omega arith; zero_there = refl; one_there = refl; same = λ i low. absurd (omega arith) })
first_apart (later {b = b} {x = y} {y = x} before) =
    let rest = first_apart before in
    let low : rest.0 < length y = rest.1.below in (
      suc rest.0,
      record { below = omega (arith, low); zero_there = rest.1.zero_there; one_there = rest.1.one_there; same = alike rest.0 rest.1.same },
    )
  where
    alike : (u : ℕ) → ((i : ℕ) → i < u → get_or y i false ≡ get_or x i false) → (i : ℕ) → i < suc u → get_or (b ∷ y) i false ≡ get_or (b ∷ x) i false
    alike u same zero low = refl
    alike u same (suc i) low = same i (omega arith)

before_from : (y x : List Bool) (u : ℕ) → length y ≡ length x → AreApartAt y x u → Before y x
before_from [] x u long at = absurd (omega (arith, at.below))
before_from (b ∷ y) [] u long at = absurd (omega arith)
before_from (b ∷ y) (c ∷ x) zero long at = subst (λ z. Before (z ∷ y) (c ∷ x)) (sym at.zero_there) (subst (λ z. Before (false ∷ y) (z ∷ x)) (sym at.one_there) first)
before_from (b ∷ y) (c ∷ x) (suc u) long at =
    let less : suc u < length (b ∷ y) = at.below in
    subst (λ z. Before (b ∷ y) (z ∷ x)) (at.same 0 (omega arith))
    (later
    (before_from y x u (omega arith)
    (record { below = omega (arith, less); zero_there = at.zero_there; one_there = at.one_there; same = λ i low. at.same (suc i) (omega arith) })))

-- ---- picked and spread

pub length-scattered : (n : ℕ) (places : List ℕ) (x : List Bool) → length (scattered n places x) ≡ n
length-scattered n places x = as_long (replicate n false) (zip places x) ∙ length-replicate n false

module _ (n : ℕ) (places : List ℕ) (are : ArePlaces n places) where
  bit-scattered : (x : List Bool) (i : ℕ) → length x ≡ length places → i < length places → get_or (scattered n places x) (get_or places i 0) false ≡ get_or x i false
  bit-scattered x i long low =
      at_its_place (replicate n false) places x i (subst (λ k. All (λ l. l < k) places) (sym (length-replicate n false)) are.below) are.rising long low

  -- what is spread is picked again, so picking is onto
  pub bits_at-scattered : (x : List Bool) → length x ≡ length places → bits_at places (scattered n places x) ≡ x
  bits_at-scattered x long =
      let whole = scattered n places x in
      let size : length (bits_at places whole) ≡ length places = length-bits_at places whole in
      ext_get_or false (bits_at places whole) x (size ∙ sym long)
      (λ i low. let within : i < length places = omega (arith, low, size) in
      bit-bits_at places whole i within ∙ bit-scattered x i long within)

  -- an assignment before one that is spread picks one before
  pub before-bits_at : (y x : List Bool) → length y ≡ n → length x ≡ length places → Before y (scattered n places x) → Before (bits_at places y) x
  before-bits_at y x size long before =
      let whole = scattered n places x in
      let apart = first_apart before in
      let u = apart.0 in
      let below : u < length y = apart.1.below in
      elim (was_or_set (replicate n false) places x u apart.1.one_there) [
        | inl was ↦ absurd (true≢false (sym was ∙ get_or-replicate n u false false (omega (arith, below, size))))
        | inr (j, within, at) ↦
            let picked : length (bits_at places y) ≡ length places = length-bits_at places y in
            before_from (bits_at places y) x j (picked ∙ sym long)
            (record {
              below = omega (arith, within, picked);
              zero_there = bit-bits_at places y j within ∙ ap (λ k. get_or y k false) at ∙ apart.1.zero_there;
              one_there = sym (bit-scattered x j long within) ∙ ap (λ k. get_or whole k false) at ∙ apart.1.one_there;
              same = λ i less.
                  let in_range : i < length places = omega (arith, less, within) in
                  let rises : get_or places i 0 < u = subst (λ k. get_or places i 0 < k) at (are.rising i j less within) in
                  bit-bits_at places y i in_range ∙ apart.1.same (get_or places i 0) rises ∙ bit-scattered x i long in_range;
            })
      ]

  -- functions agree wherever a condition holds exactly if they do as functions of the picked bits
  pub agree_where_picked : (holds f g : List Bool → Bool) →
      AgreeWhere (length places) holds f g ↔ AgreeWhere n (λ x. holds (bits_at places x)) (λ x. f (bits_at places x)) (λ x. g (bits_at places x))
  agree_where_picked holds f g = (
    λ same x size h. same (bits_at places x) (length-bits_at places x) h,
    λ same x long h.
        let e = bits_at-scattered x long in
        subst (λ z. f z ≡ g z) e (same (scattered n places x) (length-scattered n places x) (subst (λ z. IsTrue (holds z)) (sym e) h)),
  )

  -- and the least difference is spread to the least
  pub least_where_picked : (holds f g : List Bool → Bool) (x : List Bool) → IsLeastWhere (length places) holds f g x →
      IsLeastWhere n (λ y. holds (bits_at places y)) (λ y. f (bits_at places y)) (λ y. g (bits_at places y)) (scattered n places x)
  least_where_picked holds f g x least =
      let e = bits_at-scattered x least.bits in
      record {
        bits = length-scattered n places x;
        satisfies = subst (λ z. IsTrue (holds z)) (sym e) least.satisfies;
        differ = λ same. least.differ (subst (λ z. f z ≡ g z) e same);
        least = λ y size before h. least.least (bits_at places y) (length-bits_at places y) (before-bits_at y x size least.bits before) h;
      }
