-- The inner signals that differ.
use Rattle.std.proofs.Common.{◌≡◌, ℕ, zero, suc, ◌+◌, ◌<◌, Bool, true, false, cond, List, [], ◌∷◌, ◌++◌, Option, Some, None, refl, sym, ap, ◌∙◌, subst, length, get_or, take, add-one, arith}
use Rattle.std.specs.Prelude.{Contains, All, filter_map, option_to_list}
use Rattle.std.proofs.lemmas.List.Elements.{All-append, filter_map-append}
use Rattle.net_bench.specs.Circuit.{Net, IsNet, find}
use Rattle.net_bench.proofs.Found.{found_low}
use Rattle.net_explain.specs.declared.differing.InnerSignal.{InnerSignal}
use Rattle.net_explain.specs.Explaining.{SimulationModel, inner_at, inner_on, inner_to, inner_with, is_inner, line_of}
use Rattle.net_simulate.specs.RankRows.{rank_row}
use Rattle.net_bench.specs.Labels.{bit_of}
use Rattle.net_simulate.proofs.Lists.{taken_more}
use Rattle.net_simulate.proofs.Rows.{signal_low}

on_facts : (s t : ℕ) (value : Bool) (x y : Option ℕ) (i : InnerSignal) → inner_on s t value x y ≡ Some i → (i.first ≡ s) × (i.second ≡ t)
on_facts s t value None y i e = cc
on_facts s t value (Some x) None i e = cc
on_facts s t value (Some x) (Some y) i e =
    let same : record { first = s; second = t; value = value; first_line = x; second_line = y } ≡ i = cc in
    (sym (ap (λ (z : InnerSignal). z.first) same), sym (ap (λ (z : InnerSignal). z.second) same))

with_facts : (a b : Net) (v w : SimulationModel) (s : ℕ) (o : Option ℕ) (i : InnerSignal) → inner_with a b v w s o ≡ Some i → (i.first ≡ s) × (o ≡ Some i.second)
with_facts a b v w s None i e = cc
with_facts a b v w s (Some t) i e = by (is_inner v w s t) e
  where
    by : (c : Bool) → cond c (inner_on s t (bit_of v.values s) (line_of a s) (line_of b t)) None ≡ Some i → (i.first ≡ s) × (Some t ≡ Some i.second)
    by true e = let facts = on_facts s t (bit_of v.values s) (line_of a s) (line_of b t) i e in (facts.0, ap (λ z. Some z) (sym facts.1))
    by false e = cc

one : {X Y : Type 0} (h : X → Option Y) (x : X) (o : Option Y) → h x ≡ o → filter_map h (x ∷ []) ≡ option_to_list o
one h x None e = rw e refl
one h x (Some y) e = rw e refl

pub filter_more : {X Y : Type 0} (h : X → Option Y) (xs : List X) (i : ℕ) (x : X) (o : Option Y) → i < length xs → x ≡ get_or xs i x → o ≡ h x →
    filter_map h (take (i + 1) xs) ≡ filter_map h (take i xs) ++ option_to_list o
filter_more h xs i x o low is e =
    ap (filter_map h) (taken_more xs i x low is) ∙ filter_map-append h (take i xs) (x ∷ []) ∙ ap (λ ys. filter_map h (take i xs) ++ ys) (one h x o (sym e))

none_yet : {X : Type 0} (P : X → Type 0) → All P []
none_yet P i d low = absurd (omega arith)

in_front : {Y : Type 0} (P : Y → Type 0) (y : Y) (ys : List Y) → P y → All P ys → All P (y ∷ ys)
in_front P y ys p all zero d low = p
in_front P y ys p all (suc i) d low = all i d (omega arith)

given_more : {X Y : Type 0} (P : Y → Type 0) (h : X → Option Y) (x : X) (xs : List X) (o : Option Y) → h x ≡ o → ((y : Y) → h x ≡ Some y → P y) → All P (filter_map h xs) → All P (filter_map h (x ∷ xs))
given_more P h x xs None e here rest = rw e rest
given_more P h x xs (Some y) e here rest = rw e (in_front P y (filter_map h xs) (here y e) rest)

all_given : {X Y : Type 0} (P : Y → Type 0) (h : X → Option Y) (xs : List X) → ((x : X) (y : Y) → Contains xs x → h x ≡ Some y → P y) → All P (filter_map h xs)
all_given P h [] each = none_yet P
all_given P h (x ∷ xs) each =
    given_more P h x xs (h x) refl (λ y e. each x y (0, omega arith, refl) e)
    (all_given P h xs (λ z y among e. each z y (suc among.0, omega (arith, among.1), among.2) e))

module _ (a b : Net) (sound : IsNet a) (v w : SimulationModel) where
  pub all_first : (r : ℕ) → All (λ i. i.first < length a.names) (inner_to a b v w r)
  all_first zero = none_yet (λ (i : InnerSignal). i.first < length a.names)
  all_first (suc r) = All-append (λ i. i.first < length a.names) (inner_to a b v w r) (filter_map (inner_at a b v w) (rank_row a (suc r))) (all_first r)
      (all_given (λ i. i.first < length a.names) (inner_at a b v w) (rank_row a (suc r))
      (λ s i among e. subst (λ k. k < length a.names) (sym (with_facts a b v w s (find b.names (get_or a.names s [])) i e).0)
      (signal_low a sound (suc r) s among)))

  pub all_second : (r : ℕ) → All (λ i. i.second < length b.names) (inner_to a b v w r)
  all_second zero = none_yet (λ (i : InnerSignal). i.second < length b.names)
  all_second (suc r) = All-append (λ i. i.second < length b.names) (inner_to a b v w r) (filter_map (inner_at a b v w) (rank_row a (suc r))) (all_second r)
      (all_given (λ i. i.second < length b.names) (inner_at a b v w) (rank_row a (suc r))
      (λ s i among e. found_low b.names (get_or a.names s []) i.second (with_facts a b v w s (find b.names (get_or a.names s [])) i e).1))

-- the row of one more rank
pub row_added : (a b : Net) (v w : SimulationModel) (r : ℕ) (row : List ℕ) → row ≡ rank_row a (r + 1) → inner_to a b v w r ++ filter_map (inner_at a b v w) row ≡ inner_to a b v w (r + 1)
row_added a b v w r row e = rw (e, add-one) refl
