-- One more signal gets a number.
use Rattle.std.proofs.Common.{◌≡◌, ◌≢◌, inl, inr, ℕ, zero, suc, ◌<◌, List, [], ◌∷◌, ◌++◌, Bool, refl, sym, ap, ◌∙◌, subst, map, take, length, get_or, arith}
use Rattle.std.specs.Prelude.{All, Some, filter, slice_get}
use Rattle.std.proofs.lemmas.List.{get_or-map, get_or-take, get_or_default}
use Rattle.std.proofs.lemmas.List.Elements.{All-append, All-filter}
use Rattle.std.proofs.lemmas.Bool.{cases_lt}
use Rattle.net_bench.proofs.OneLabelling.{at_contained}
use Rattle.std.proofs.lemmas.Option.{get_or_from_slice_get}
use Rattle.net_bench.specs.declared.netlist.GateLine.{GateLine}
use Rattle.net_bench.specs.Circuit.{HaveNoRepeats, IsNet, Net, circuit, variables_of}
use Rattle.net_cone.specs.Cones.{AreNames, last_gate}
use Rattle.net_cone.specs.Walk.{is_visited}

pub name_at : (n : Net) (s : ℕ) (name : List ℕ) → slice_get n.names s ≡ Some name → name ≡ get_or n.names s []
name_at n s name at = sym (get_or_from_slice_get n.names s name [] at)

taken_low : (xs : List ℕ) (p i : ℕ) → i < length (take p xs) → i < p
taken_low [] zero i low = absurd (omega arith)
taken_low [] (suc p) i low = absurd (omega arith)
taken_low (x ∷ xs) zero i low = absurd (omega arith)
taken_low (x ∷ xs) (suc p) zero low = omega arith
taken_low (x ∷ xs) (suc p) (suc i) low = let more : i < p = taken_low xs p i (omega arith) in omega arith

taken_short : (xs : List ℕ) (p i : ℕ) → i < length (take p xs) → i < length xs
taken_short [] zero i low = absurd (omega arith)
taken_short [] (suc p) i low = absurd (omega arith)
taken_short (x ∷ xs) zero i low = absurd (omega arith)
taken_short (x ∷ xs) (suc p) zero low = omega arith
taken_short (x ∷ xs) (suc p) (suc i) low = let more : i < length xs = taken_short xs p i (omega arith) in omega arith

earlier : (xs : List ℕ) (p s : ℕ) → HaveNoRepeats xs → p < length xs → s ≡ get_or xs p s → All (λ t. t ≢ s) (take p xs)
earlier xs p s once low is i d less same =
    let before : i < p = taken_low xs p i less in
    let within : i < length xs = taken_short xs p i less in
    once i p before low
    (get_or_default xs i 0 d within ∙ sym (get_or-take p xs i d before) ∙ same ∙ is ∙ get_or_default xs p s 0 low)

pub fresh_next : (seen : List Bool) (signals from initial : List ℕ) (p s : ℕ) → HaveNoRepeats signals → p < length signals → s ≡ get_or signals p s →
    All (λ t. t ≢ s) initial → from ≡ initial ++ filter (is_visited seen) (take p signals) → All (λ t. t ≢ s) from
fresh_next seen signals from initial p s once low is fresh added =
    subst (All (λ t. t ≢ s)) (sym added)
    (All-append (λ t. t ≢ s) initial (filter (is_visited seen) (take p signals)) fresh
    (All-filter (is_visited seen) (λ t. t ≢ s) (take p signals) (earlier signals p s once low is)))

-- ---- the gates' signals

pub no_gate : GateLine
no_gate = last_gate 0 0

length_outs : (gs : List GateLine) → length (map (λ g. g.out) gs) ≡ length gs
length_outs [] = refl
length_outs (g ∷ gs) = ap suc (length_outs gs)

out_at : (gs : List GateLine) (i d : ℕ) → i < length (map (λ g. g.out) gs) → get_or (map (λ g. g.out) gs) i d ≡ (get_or gs i no_gate).out
out_at gs i d low = get_or-map (λ g. g.out) gs i no_gate d (subst (λ k. i < k) (length_outs gs) low)

module _ (n : Net) (sound : IsNet n) (outs : List ℕ) (is : outs ≡ map (λ g. g.out) n.gates) where
  pub outs_inside : (bound : ℕ) → bound ≡ length n.names → All (λ s. s < bound) outs
  outs_inside bound same = subst (λ os. All (λ s. s < bound) os) (sym is) (subst (λ b. All (λ s. s < b) (map (λ g. g.out) n.gates)) (sym same)
      (λ i d low. subst (λ s. s < length n.names) (sym (out_at n.gates i d low)) (sound.outs i no_gate (subst (λ k. i < k) (length_outs n.gates) low))))

  pub outs_once : HaveNoRepeats outs
  outs_once = subst HaveNoRepeats (sym is)
      (λ i j less low same.
      let long : length (map (λ g. g.out) n.gates) ≡ length n.gates = length_outs n.gates in
      sound.one_gate i j no_gate less (omega arith) (sym (out_at n.gates i 0 (omega arith)) ∙ same ∙ out_at n.gates j 0 low))

  pub outs_fresh : (seen : List Bool) (old from : List ℕ) → old ≡ [] → from ≡ old ++ filter (is_visited seen) (variables_of (circuit n)) → All (λ s. All (λ t. t ≢ s) from) outs
  outs_fresh seen old from none added =
      let all : from ≡ filter (is_visited seen) (variables_of (circuit n)) = added ∙ ap (λ xs. xs ++ filter (is_visited seen) (variables_of (circuit n))) none in
      subst (λ os. All (λ s. All (λ t. t ≢ s) from) os) (sym is)
      (λ k e low. subst (All (λ t. t ≢ get_or (map (λ g. g.out) n.gates) k e)) (sym all)
      (All-filter (is_visited seen) (λ t. t ≢ get_or (map (λ g. g.out) n.gates) k e) (variables_of (circuit n))
      (λ i d less same. sound.apart i d less k no_gate (subst (λ l. k < l) (length_outs n.gates) low) (sym (out_at n.gates k e low) ∙ sym same))))

-- ---- names

pub one_name : (n : Net) → IsNet n → (s t : ℕ) → s < length n.names → t < length n.names → get_or n.names s [] ≡ get_or n.names t [] → s ≡ t
one_name n sound s t low less same = elim (cases_lt s t) [
  | inl before ↦ absurd (sound.names s t before less same)
  | inr behind ↦ elim (cases_lt t s) [
    | inl after ↦ absurd (sound.names t s after low (sym same))
    | inr equal ↦ omega arith
  ]
]

pub own_named : (n : Net) → IsNet n → (names : List (List ℕ)) → names ≡ n.names → AreNames n names
own_named n sound names is = subst (AreNames n) (sym is) (record {
  each = refl;
  apart = λ s t one two same. one_name n sound s t (at_contained (λ v. v < length n.names) (variables_of (circuit n)) s sound.variables one)
      (at_contained (λ v. v < length n.names) (variables_of (circuit n)) t sound.variables two) same;
})
