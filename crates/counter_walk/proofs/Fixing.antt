-- Fixing the variables of a function one after the other, as declared: to 0 if the function can still be 1, and
-- otherwise to 1.
use Rattle.std.proofs.Common.{◌≡◌, ℕ, zero, suc, ◌+◌, ◌<◌, Bool, true, false, true≢false, List, [], ◌∷◌, ◌++◌, length, get_or, refl, sym, ◌∙◌, ap, subst, arith, inl, inr}
use Rattle.std.proofs.Math.ListN.{set}
use Rattle.std.proofs.lemmas.Bool.{cases_lt, cases_Bool, false_from_ne_true}
use Rattle.std.proofs.lemmas.List.{length-set, get_or-set_same, get_or-set_other, get_or_append_left, get_or_push, length_push, ext_get_or}
use Rattle.dd_store.specs.Functions.{Before, IsLeastDifference}
use Rattle.dd_store.specs.Functions.Before.{first, later}
use Rattle.counter_walk.specs.Lines.{unlike, IsIndependentOf}

-- a function can be 1 with its first variables fixed
pub record Can (n : ℕ) (h : List Bool → Bool) (bits : List Bool) : Type 0 where
  pub at : List Bool
  pub size : length at ≡ n
  pub begins : (e : ℕ) → e < length bits → get_or at e false ≡ get_or bits e false
  pub one : h at ≡ true

-- the first variables are fixed so that a function can be 1, and is 0 before them
pub record IsFixed (n : ℕ) (h : List Bool → Bool) (bits : List Bool) : Type 0 where
  pub can : Can n h bits
  pub least : (y : List Bool) → length y ≡ n → (e : ℕ) → e < length bits → ((k : ℕ) → k < e → get_or y k false ≡ get_or bits k false)
      → get_or y e false ≡ false → get_or bits e false ≡ true → h y ≡ false

-- one assignment comes before another at some bit
record FirstBefore (x y : List Bool) : Type 0 where
  place : ℕ
  within : place < length y
  same : (k : ℕ) → k < place → get_or x k false ≡ get_or y k false
  zero_there : get_or x place false ≡ false
  one_there : get_or y place false ≡ true

first_before : {x y : List Bool} → Before x y → FirstBefore x y
first_before first = record { place = 0; within = omega arith; same = λ k lt. absurd (omega arith); zero_there = refl; one_there = refl }
first_before (later {b = b} {x = x} {y = y} i) =
    let j : FirstBefore x y = first_before i in
    record { place = suc j.place; within = omega (arith, j.within); same = λ k lt. each b x y j k lt; zero_there = j.zero_there; one_there = j.one_there }
  where
    each : (b : Bool) (x y : List Bool) (j : FirstBefore x y) (k : ℕ) → k < suc j.place → get_or (b ∷ x) k false ≡ get_or (b ∷ y) k false
    each b x y j zero lt = refl
    each b x y j (suc k) lt = j.same k (omega arith)

-- ---- two values

pub unlike_same : (a b : Bool) → a ≡ b → unlike a b ≡ false
unlike_same true true e = refl
unlike_same false false e = refl
unlike_same true false e = cc
unlike_same false true e = cc

same_of_unlike : (a b : Bool) → unlike a b ≡ false → a ≡ b
same_of_unlike true true e = refl
same_of_unlike false false e = refl
same_of_unlike true false e = cc
same_of_unlike false true e = cc

pub unlike_of_ne : (a b : Bool) → (a ≡ b → ⊥) → unlike a b ≡ true
unlike_of_ne true true ne = absurd (ne refl)
unlike_of_ne false false ne = absurd (ne refl)
unlike_of_ne true false ne = refl
unlike_of_ne false true ne = refl

module _ (n : ℕ) (h : List Bool → Bool) where
  -- nothing is fixed
  pub fixed_start : (x : List Bool) → length x ≡ n → h x ≡ true → IsFixed n h []
  fixed_start x len one = record {
    can = record { at = x; size = len; begins = λ e lt. absurd (omega arith); one = one };
    least = λ y hy e lt same z u. absurd (omega arith);
  }

  -- one variable more
  begins-push : (bits x : List Bool) (b : Bool) → ((e : ℕ) → e < length bits → get_or x e false ≡ get_or bits e false)
      → get_or x (length bits) false ≡ b
      → (e : ℕ) → e < length (bits ++ b ∷ []) → get_or x e false ≡ get_or (bits ++ b ∷ []) e false
  begins-push bits x b begins there e lt =
      let long : length (bits ++ b ∷ []) ≡ length bits + 1 = length_push bits b in
      elim (cases_lt e (length bits)) [
        | inl l ↦ begins e l ∙ sym (get_or_append_left bits (b ∷ []) false e l)
        | inr l ↦
            let at : length bits ≡ e = omega arith in
            subst (λ k. get_or x k false ≡ b) at there ∙ sym (get_or_push bits b false e at)
      ]

  fixed_push : (bits : List Bool) (b : Bool) → Can n h (bits ++ b ∷ []) → (b ≡ true → Can n h (bits ++ false ∷ []) → ⊥)
      → IsFixed n h bits → IsFixed n h (bits ++ b ∷ [])
  fixed_push bits b can never g = record {
    can = can;
    least = λ y len e lt same z u.
        let long : length (bits ++ b ∷ []) ≡ length bits + 1 = length_push bits b in
        elim (cases_lt e (length bits)) [
          | inl l ↦
              g.least y len e l (λ k kl. same k kl ∙ get_or_append_left bits (b ∷ []) false k (omega arith)) z (sym (get_or_append_left bits (b ∷ []) false e l) ∙ u)
          | inr l ↦
              let at : length bits ≡ e = omega arith in
              false_from_ne_true (h y)
              (λ t. never (sym (get_or_push bits b false e at) ∙ u)
              (record {
                at = y;
                size = len;
                begins = begins-push bits y false (λ k kl. same k (omega arith) ∙ get_or_append_left bits (b ∷ []) false k kl) (subst (λ k. get_or y k false ≡ false) (sym at) z);
                one = t;
              }))
        ];
  }

  pub fixed_zero : (bits : List Bool) → Can n h (bits ++ false ∷ []) → IsFixed n h bits → IsFixed n h (bits ++ false ∷ [])
  fixed_zero bits can g = fixed_push bits false can (λ e. absurd (true≢false (sym e))) g

  pub fixed_one : (bits : List Bool) → (Can n h (bits ++ false ∷ []) → ⊥) → IsFixed n h bits → IsFixed n h (bits ++ true ∷ [])
  fixed_one bits never g =
      let z = g.can in
      elim (cases_Bool (get_or z.at (length bits) false)) [
        | inl t ↦ fixed_push bits true (record { at = z.at; size = z.size; begins = begins-push bits z.at true z.begins t; one = z.one }) (λ e. never) g
        | inr t ↦ absurd (never (record { at = z.at; size = z.size; begins = begins-push bits z.at false z.begins t; one = z.one }))
      ]

  -- a variable on which the function does not depend is 0
  pub fixed_free : (bits : List Bool) → length bits < n → IsIndependentOf n (length bits) h → IsFixed n h bits → IsFixed n h (bits ++ false ∷ [])
  fixed_free bits lt f g =
      let z = g.can in
      let d : ℕ = length bits in
      let wide : length z.at ≡ n = z.size in
      fixed_zero bits
      (record {
        at = set z.at d false;
        size = length-set z.at d false ∙ z.size;
        begins = begins-push bits (set z.at d false) false (λ e l. get_or-set_other z.at d e false false (λ same. absurd (omega arith)) ∙ z.begins e l) (get_or-set_same z.at d false false (omega arith));
        one = f false z.at z.size ∙ z.one;
      })
      g

-- all variables are fixed
pub fixed_all : (n : ℕ) (f g : List Bool → Bool) (bits : List Bool) → length bits ≡ n → IsFixed n (λ x. unlike (f x) (g x)) bits
    → IsLeastDifference n f g bits
fixed_all n f g bits len k =
    let z = k.can in
    let same : z.at ≡ bits = ext_get_or false z.at bits (z.size ∙ sym len) (λ i lt. let wide : length z.at ≡ n = z.size in z.begins i (omega arith)) in
    let one : unlike (f bits) (g bits) ≡ true = ap (λ x. unlike (f x) (g x)) (sym same) ∙ z.one in
    record {
      bits = len;
      differ = λ e. true≢false (sym one ∙ unlike_same (f bits) (g bits) e);
      least = λ y hy before.
          let j : FirstBefore y bits = first_before before in
          same_of_unlike (f y) (g y) (k.least y hy j.place j.within j.same j.zero_there j.one_there);
    }
