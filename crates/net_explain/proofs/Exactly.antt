-- The list has exactly the inner signals that differ.
use Rattle.std.proofs.Common.{◌≡◌, ◌⊎◌, inl, inr, ℕ, zero, suc, ◌<◌, ◌≤◌, ◌==◌, Bool, true, false, not, cond, ◌&&◌, List, [], ◌∷◌, ◌++◌, Option, Some, None, refl, sym, ap, ◌∙◌, subst, length, get_or, eq-eqb, arith}
use Rattle.std.specs.Prelude.{Contains, filter_map, option_to_list}
use Rattle.std.proofs.lemmas.Bool.{ne_eqb}
use Rattle.std.proofs.lemmas.Bool.Decides.{nat_tests}
use Rattle.std.proofs.lemmas.Option.{get_or_from_slice_get, slice_get-get_or, slice_get_within}
use Rattle.net_bench.specs.declared.netlist.GateLine.{GateLine}
use Rattle.net_bench.specs.Circuit.{Net, IsNet, find, gate_of, highest_rank, rank_of}
use Rattle.net_bench.specs.Labels.{bit_of}
use Rattle.net_bench.proofs.Found.{found_at}
use Rattle.net_bench.proofs.Names.{found_place}
use Rattle.net_bench.proofs.OneLabelling.{at_contained}
use Rattle.net_bench.specs.NameTable.{NamesAreDistinct}
use Rattle.net_cone.proofs.Numbered.{one_name}
use Rattle.net_cone.proofs.Walking.{gate_found}
use Rattle.net_explain.specs.declared.differing.InnerSignal.{InnerSignal}
use Rattle.net_explain.specs.Explaining.{IsInner, SimulationModel, differ, differing, gate_line, inner_at, inner_on, inner_to, inner_with, is_inner, line_of}
use Rattle.net_simulate.specs.RankRows.{rank_row}
use Rattle.net_simulate.proofs.Lists.{same_or}
use Rattle.net_simulate.proofs.Rows.{in_row, rank_low, rank_top}

-- ---- lists

one_more : {X Y : Type 0} (h : X → Option Y) (x : X) (xs : List X) (o : Option Y) → h x ≡ o → filter_map h (x ∷ xs) ≡ option_to_list o ++ filter_map h xs
one_more h x xs None e = rw e refl
one_more h x xs (Some y) e = rw e refl

further : {X Y : Type 0} (h : X → Option Y) (x : X) (xs : List X) (y : Y) → ((z : X) × Contains xs z × (h z ≡ Some y)) → (z : X) × Contains (x ∷ xs) z × (h z ≡ Some y)
further h x xs y (z, (i, low, at), e) = (z, (suc i, omega arith, at), e)

by_first : {X Y : Type 0} (h : X → Option Y) (x : X) (xs : List X) (y : Y) (o : Option Y) → h x ≡ o → (Contains (filter_map h xs) y → (z : X) × Contains xs z × (h z ≡ Some y)) →
    Contains (option_to_list o ++ filter_map h xs) y → (z : X) × Contains (x ∷ xs) z × (h z ≡ Some y)
by_first h x xs y None e rest among = further h x xs y (rest among)
by_first h x xs y (Some u) e rest (zero, low, at) = (x, (0, omega arith, refl), e ∙ ap (λ z. Some z) at)
by_first h x xs y (Some u) e rest (suc i, low, at) = further h x xs y (rest (i, omega arith, at))

given_by : {X Y : Type 0} (h : X → Option Y) (xs : List X) (y : Y) → Contains (filter_map h xs) y → (z : X) × Contains xs z × (h z ≡ Some y)
given_by h [] y (i, low, at) = absurd (omega arith)
given_by h (x ∷ xs) y among =
    by_first h x xs y (h x) refl (λ there. given_by h xs y there) (subst (λ ys. Contains ys y) (one_more h x xs (h x) refl) among)

in_second : {X : Type 0} (xs ys : List X) (x : X) → Contains ys x → Contains (xs ++ ys) x
in_second [] ys x among = among
in_second (y ∷ xs) ys x among = let there : Contains (xs ++ ys) x = in_second xs ys x among in (suc there.0, omega (arith, there.1), there.2)

in_first : {X : Type 0} (xs ys : List X) (x : X) → Contains xs x → Contains (xs ++ ys) x
in_first [] ys x (i, low, at) = absurd (omega arith)
in_first (y ∷ xs) ys x (zero, low, at) = (0, omega arith, at)
in_first (y ∷ xs) ys x (suc i, low, at) = let there : Contains (xs ++ ys) x = in_first xs ys x (i, omega arith, at) in (suc there.0, omega (arith, there.1), there.2)

parted : {X : Type 0} (xs ys : List X) (x : X) → Contains (xs ++ ys) x → Contains xs x ⊎ Contains ys x
parted [] ys x among = inr among
parted (y ∷ xs) ys x (zero, low, at) = inl (0, omega arith, at)
parted (y ∷ xs) ys x (suc i, low, at) = elim (parted xs ys x (i, omega arith, at)) [
  | inl (j, less, is) ↦ inl (suc j, omega arith, is)
  | inr there ↦ inr there
]

gives : {X Y : Type 0} (h : X → Option Y) (xs : List X) (x : X) (y : Y) → Contains xs x → h x ≡ Some y → Contains (filter_map h xs) y
gives h [] x y (i, low, at) e = absurd (omega arith)
gives h (z ∷ xs) x y (zero, low, at) e = subst (λ ys. Contains ys y) (sym (one_more h z xs (Some y) (ap h at ∙ e))) (0, omega arith, refl)
gives h (z ∷ xs) x y (suc i, low, at) e =
    subst (λ ys. Contains ys y) (sym (one_more h z xs (h z) refl)) (in_second (option_to_list (h z)) (filter_map h xs) y (gives h xs x y (i, omega arith, at) e))

-- ---- gates by signal

front_gate : (g : GateLine) (gs : List GateLine) (h : GateLine) → Contains gs h → Contains (g ∷ gs) h
front_gate g gs h (i, low, at) = (suc i, omega arith, at)

gate_at : (gs : List GateLine) (s : ℕ) (g : GateLine) → gate_of gs s ≡ Some g → Contains gs g × (g.out ≡ s)
gate_at [] s g e = cc
gate_at (h ∷ hs) s g e = by (h.out == s) refl (gate_at hs s g) e
  where
    by : (b : Bool) → (h.out == s) ≡ b → (gate_of hs s ≡ Some g → Contains hs g × (g.out ≡ s)) → cond b (Some h) (gate_of hs s) ≡ Some g → Contains (h ∷ hs) g × (g.out ≡ s)
    by true t rest e =
        let same : h ≡ g = cc in
        let out : h.out ≡ s = grind (arith, nat_tests) in
        ((0, omega arith, same), ap (λ (x : GateLine). x.out) (sym same) ∙ out)
    by false t rest e = let there = rest e in (front_gate h hs g there.0, there.1)

lined : (o : Option GateLine) (line : ℕ) → gate_line o ≡ Some line → (g : GateLine) × (o ≡ Some g) × (g.line ≡ line)
lined None line e = cc
lined (Some g) line e = (g, refl, (let same : g.line ≡ line = cc in same))

on_line : (n : Net) (s line : ℕ) → line_of n s ≡ Some line → (g : GateLine) × Contains n.gates g × (g.out ≡ s) × (g.line ≡ line)
on_line n s line e =
    let (g, is, on) = lined (gate_of n.gates s) line e in
    let at = gate_at n.gates s g is in
    (g, at.0, at.1, on)

names_once : (n : Net) → IsNet n → NamesAreDistinct n.names
names_once n sound i j name e f =
    one_name n sound i j (slice_get_within n.names i name e) (slice_get_within n.names j name f)
    (get_or_from_slice_get n.names i name [] e ∙ sym (get_or_from_slice_get n.names j name [] f))

-- ---- what a signal of the list is

pub record IsOn (s t : ℕ) (value : Bool) (x y : Option ℕ) (i : InnerSignal) : Type 0 where
  pub first : i.first ≡ s
  pub second : i.second ≡ t
  pub bit : i.value ≡ value
  pub line : x ≡ Some i.first_line
  pub other_line : y ≡ Some i.second_line

on_facts : (s t : ℕ) (value : Bool) (x y : Option ℕ) (i : InnerSignal) → inner_on s t value x y ≡ Some i → IsOn s t value x y i
on_facts s t value None y i e = cc
on_facts s t value (Some x) None i e = cc
on_facts s t value (Some x) (Some y) i e =
    let same : record { first = s; second = t; value = value; first_line = x; second_line = y } ≡ i = cc in
    record {
      first = sym (ap (λ (z : InnerSignal). z.first) same);
      second = sym (ap (λ (z : InnerSignal). z.second) same);
      bit = sym (ap (λ (z : InnerSignal). z.value) same);
      line = ap (λ (z : InnerSignal). Some z.first_line) same;
      other_line = ap (λ (z : InnerSignal). Some z.second_line) same;
    }

pub record IsWith (a b : Net) (v w : SimulationModel) (s : ℕ) (o : Option ℕ) (i : InnerSignal) : Type 0 where
  pub partner : o ≡ Some i.second
  pub test : is_inner v w s i.second ≡ true
  pub on : IsOn s i.second (bit_of v.values s) (line_of a s) (line_of b i.second) i

with_facts : (a b : Net) (v w : SimulationModel) (s : ℕ) (o : Option ℕ) (i : InnerSignal) → inner_with a b v w s o ≡ Some i → IsWith a b v w s o i
with_facts a b v w s None i e = cc
with_facts a b v w s (Some t) i e = by (is_inner v w s t) refl e
  where
    by : (c : Bool) → is_inner v w s t ≡ c → cond c (inner_on s t (bit_of v.values s) (line_of a s) (line_of b t)) None ≡ Some i → IsWith a b v w s (Some t) i
    by false q e = cc
    by true q e =
        let on : IsOn s t (bit_of v.values s) (line_of a s) (line_of b t) i = on_facts s t (bit_of v.values s) (line_of a s) (line_of b t) i e in
        record {
          partner = ap (λ z. Some z) (sym on.second);
          test = subst (λ z. is_inner v w s z ≡ true) (sym on.second) q;
          on = subst (λ z. IsOn s z (bit_of v.values s) (line_of a s) (line_of b z) i) (sym on.second) on;
        }

-- the parts of the test
and_left : (b c : Bool) → (b && c) ≡ true → b ≡ true
and_left true c e = refl
and_left false c e = cc

and_right : (b c : Bool) → (b && c) ≡ true → c ≡ true
and_right true c e = e
and_right false c e = cc

not_true : (b : Bool) → not b ≡ true → b ≡ false
not_true true e = cc
not_true false e = refl

other_of : (b c : Bool) → differ b c ≡ true → c ≡ not b
other_of true true e = cc
other_of true false e = refl
other_of false true e = refl
other_of false false e = cc

differ_of : (b c : Bool) → c ≡ not b → differ b c ≡ true
differ_of true true e = cc
differ_of true false e = refl
differ_of false true e = refl
differ_of false false e = cc

both_same : (s r t q : ℕ) → (s == r && t == q) ≡ false → s ≡ r → t ≡ q → ⊥
both_same s r t q e f g = let h : (s == r && t == q) ≡ true = ap (λ b. b && (t == q)) (eq-eqb s r f) ∙ eq-eqb t q g in cc

not_both : (s r t q : ℕ) → (s ≡ r → t ≡ q → ⊥) → (s == r && t == q) ≡ false
not_both s r t q apart = elim (same_or s r) [
  | inl e ↦ elim (same_or t q) [
    | inl f ↦ absurd (apart e f)
    | inr ne ↦ ap (λ b. b && (t == q)) (eq-eqb s r e) ∙ ne_eqb t q ne
  ]
  | inr ne ↦ ap (λ b. b && (t == q)) (ne_eqb s r ne)
]

module _ (a b : Net) (v w : SimulationModel) (i : InnerSignal) (first : IsNet a) (second : IsNet b) where
  in_ranks : (r : ℕ) → Contains (inner_to a b v w r) i → (s : ℕ) × (inner_at a b v w s ≡ Some i)
  in_ranks zero (k, low, at) = absurd (omega arith)
  in_ranks (suc r) among = elim (parted (inner_to a b v w r) (filter_map (inner_at a b v w) (rank_row a (suc r))) i among) [
    | inl there ↦ in_ranks r there
    | inr here ↦ let (s, at, e) = given_by (inner_at a b v w) (rank_row a (suc r)) i here in (s, e)
  ]

  is_it : (s : ℕ) → inner_at a b v w s ≡ Some i → IsInner a b v w i
  is_it s e =
      let is : IsWith a b v w s (find b.names (get_or a.names s [])) i = with_facts a b v w s (find b.names (get_or a.names s [])) i e in
      let at : i.first ≡ s = is.on.first in
      let (g, among, out, line) = on_line a s i.first_line is.on.line in
      let (h, other_among, other_out, other_line) = on_line b i.second i.second_line is.on.other_line in
      let two : (bit_of w.below i.second && (not (s == v.root && i.second == w.root) && differ (bit_of v.values s) (bit_of w.values i.second))) ≡ true = and_right (bit_of v.below s) _ is.test in
      let three : (not (s == v.root && i.second == w.root) && differ (bit_of v.values s) (bit_of w.values i.second)) ≡ true = and_right (bit_of w.below i.second) _ two in
      record {
        gate = g;
        other_gate = h;
        among = among;
        other_among = other_among;
        out = out ∙ sym at;
        other_out = other_out;
        line = line;
        other_line = other_line;
        name = ap (λ k. get_or a.names k []) at ∙ sym (found_at b.names (get_or a.names s []) i.second is.partner);
        below = ap (bit_of v.below) at ∙ and_left (bit_of v.below s) _ is.test;
        other_below = and_left (bit_of w.below i.second) _ two;
        apart = λ f. both_same s v.root i.second w.root (not_true _ (and_left (not (s == v.root && i.second == w.root)) _ three)) (sym at ∙ f);
        value = ap (bit_of v.values) at ∙ sym is.on.bit;
        other_value = other_of (bit_of v.values s) (bit_of w.values i.second) (and_right (not (s == v.root && i.second == w.root)) _ three) ∙ ap not (sym is.on.bit);
      }

  pub is_inner_of : Contains (differing a b v w) i → IsInner a b v w i
  is_inner_of among = let (s, e) = in_ranks (highest_rank a) among in is_it s e

  up_to : (r top : ℕ) → r ≤ top → Contains (inner_to a b v w r) i → Contains (inner_to a b v w top) i
  up_to zero zero low there = there
  up_to (suc r) zero low there = absurd (omega arith)
  up_to r (suc top) low there = elim (same_or r (suc top)) [
    | inl e ↦ subst (λ k. Contains (inner_to a b v w k) i) e there
    | inr ne ↦ in_first (inner_to a b v w top) (filter_map (inner_at a b v w) (rank_row a (suc top))) i (up_to r top (omega arith) there)
  ]

  in_rank : (r : ℕ) → 0 < r → Contains (rank_row a r) i.first → inner_at a b v w i.first ≡ Some i → Contains (inner_to a b v w r) i
  in_rank zero low there e = absurd (omega arith)
  in_rank (suc r) low there e =
      in_second (inner_to a b v w r) (filter_map (inner_at a b v w) (rank_row a (suc r))) i (gives (inner_at a b v w) (rank_row a (suc r)) i.first i there e)

  found_name : IsInner a b v w i → find b.names (get_or a.names i.first []) ≡ Some i.second
  found_name is =
      let low : i.second < length b.names = subst (λ k. k < length b.names) is.other_out (at_contained (λ g. g.out < length b.names) b.gates is.other_gate second.outs is.other_among) in
      ap (find b.names) is.name ∙ found_place b.names (get_or b.names i.second []) i.second (names_once b second) (slice_get-get_or b.names i.second [] low)

  listed_line : (n : Net) (g : GateLine) (s line : ℕ) → IsNet n → Contains n.gates g → g.out ≡ s → g.line ≡ line → line_of n s ≡ Some line
  listed_line n g s line sound among out on =
      let found : gate_of n.gates s ≡ Some g = subst (λ t. gate_of n.gates t ≡ Some g) out (gate_found n sound g among) in
      ap gate_line found ∙ ap (λ z. Some z) on

  passes : IsInner a b v w i → is_inner v w i.first i.second ≡ true
  passes is =
      rw (is.below, is.other_below, not_both i.first v.root i.second w.root is.apart)
      (differ_of (bit_of v.values i.first) (bit_of w.values i.second) (is.other_value ∙ ap not (sym is.value)))

  pub is_listed : IsInner a b v w i → Contains (differing a b v w) i
  is_listed is =
      let at : inner_at a b v w i.first ≡ Some i =
      ap (inner_with a b v w i.first) (found_name is) ∙
      ap (λ c. cond c (inner_on i.first i.second (bit_of v.values i.first) (line_of a i.first) (line_of b i.second)) None) (passes is) ∙
      ap (inner_on i.first i.second (bit_of v.values i.first) (line_of a i.first)) (listed_line b is.other_gate i.second i.second_line second is.other_among is.other_out is.other_line) ∙
      ap (λ o. inner_on i.first i.second (bit_of v.values i.first) o (Some i.second_line)) (listed_line a is.gate i.first i.first_line first is.among is.out is.line) ∙
      ap (λ z. inner_on i.first i.second z (Some i.first_line) (Some i.second_line)) is.value in
      up_to (rank_of a is.gate) (highest_rank a) (rank_top a is.gate is.among)
      (in_rank (rank_of a is.gate) (rank_low a first is.gate is.among) (subst (Contains (rank_row a (rank_of a is.gate))) is.out (in_row a (rank_of a is.gate) is.gate is.among refl)) at)
