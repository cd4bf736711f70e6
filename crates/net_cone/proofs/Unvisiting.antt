-- Flags that are cleared, and the gates that have them set.
use Rattle.std.proofs.Common.{◌≡◌, ◌≢◌, ◌⊎◌, inl, inr, ℕ, zero, suc, ◌+◌, ◌<◌, ◌≤◌, List, [], ◌∷◌, ◌++◌, Bool, true, false, refl, sym, ap, ◌∙◌, subst, length, get_or, arith}
use Rattle.std.proofs.Math.ListN.{set}
use Rattle.std.specs.Prelude.{nat_eq, cond, Contains, All, Some, None, drop}
use Rattle.std.specs.List.{AllZip}
use Rattle.std.proofs.lemmas.List.{get_or-set_same, get_or-set_other}
use Rattle.std.proofs.lemmas.List.Sums.{sum_by-cons}
use Rattle.net_bench.specs.declared.netlist.GateLine.{GateLine}
use Rattle.net_bench.specs.Circuit.{Net, IsNet, circuit, gate_of}
use Rattle.net_bench.proofs.OneLabelling.{at_contained}
use Rattle.net_cone.specs.Cones.{HasGates, IsBelow, here, deeper}
use Rattle.net_cone.specs.Walk.{AreBelow, IsVisited, gates_visited, is_visited}

-- a flag after one was cleared is that one, or is as before
split : (ms : List Bool) (i s : ℕ) → (s ≡ i) ⊎ (is_visited (set ms i false) s ≡ is_visited ms s)
split ms i s =
    elim (nat_eq s i) as (λ b. nat_eq s i ≡ b → (s ≡ i) ⊎ (is_visited (set ms i false) s ≡ is_visited ms s)) [
      | true ↦ λ e. let same : s ≡ i = grind arith in inl same
      | false ↦ λ e. let other : s ≢ i = (λ f. grind arith) in inr (get_or-set_other ms i s false false other)
    ] refl

pub unvisited_here : (ms : List Bool) (i : ℕ) → i < length ms → is_visited (set ms i false) i ≡ false
unvisited_here ms i low = get_or-set_same ms i false false low

pub only_others : (ms : List Bool) (i s : ℕ) → i < length ms → IsVisited (set ms i false) s → IsVisited ms s
only_others ms i s low now = elim (split ms i s) [
  | inl same ↦ let none : is_visited (set ms i false) s ≡ false = ap (is_visited (set ms i false)) same ∙ unvisited_here ms i low in cc
  | inr as_was ↦ sym as_was ∙ now
]

-- ---- gates whose flags are set

abbrev one : Bool → ℕ
one b = cond b 1 0

counted : (ms : List Bool) (g : GateLine) (gs : List GateLine) → gates_visited ms (g ∷ gs) ≡ one (is_visited ms g.out) + gates_visited ms gs
counted ms g gs = sum_by-cons (λ (x : GateLine). one (is_visited ms x.out)) g gs

others_same : (ms : List Bool) (s : ℕ) (gs : List GateLine) → All (λ g. g.out ≢ s) gs → gates_visited (set ms s false) gs ≡ gates_visited ms gs
others_same ms s [] other = refl
others_same ms s (g ∷ gs) other =
    let rest : gates_visited (set ms s false) gs ≡ gates_visited ms gs = others_same ms s gs (λ i d low. other (suc i) d (omega arith)) in
    elim (split ms s g.out) [
      | inl same ↦ absurd (other 0 g (omega arith) same)
      | inr as_was ↦ counted (set ms s false) g gs ∙ ap (λ b. one b + gates_visited (set ms s false) gs) as_was ∙ ap (λ k. one (is_visited ms g.out) + k) rest ∙ sym (counted ms g gs)
    ]

at_head : (g : GateLine) (gs : List GateLine) (s : ℕ) → g.out ≢ s → All (λ h. h.out ≢ s) gs → All (λ h. h.out ≢ s) (g ∷ gs)
at_head g gs s first rest zero d low = first
at_head g gs s first rest (suc i) d low = rest i d (omega arith)

no_gate_out : (gs : List GateLine) (s : ℕ) → gate_of gs s ≡ None → All (λ g. g.out ≢ s) gs
no_gate_out [] s none = λ i d low. absurd (omega arith)
no_gate_out (g ∷ gs) s none =
    elim (nat_eq g.out s) as (λ b. nat_eq g.out s ≡ b → cond b (Some g) (gate_of gs s) ≡ None → All (λ h. h.out ≢ s) (g ∷ gs)) [
      | true ↦ λ e f. cc
      | false ↦ λ e f. at_head g gs s (λ same. grind arith) (no_gate_out gs s f)
    ] refl none

pub without_gate : (ms : List Bool) (s : ℕ) (gs : List GateLine) → gate_of gs s ≡ None → gates_visited (set ms s false) gs ≡ gates_visited ms gs
without_gate ms s gs none = others_same ms s gs (no_gate_out gs s none)

first_less : (x k m y : ℕ) → x ≡ 0 → y ≡ 1 → k ≡ m → 1 + (x + k) ≡ y + m
first_less x k m y none some same = omega arith

later_less : (x k m y : ℕ) → x ≡ y → 1 + k ≡ m → 1 + (x + k) ≡ y + m
later_less x k m y as_was same = omega arith

pub with_gate : (ms : List Bool) (s : ℕ) (gs : List GateLine) (found : GateLine) → ((i j : ℕ) (d : GateLine) → i < j → j < length gs → (get_or gs i d).out ≢ (get_or gs j d).out) →
    s < length ms → IsVisited ms s → gate_of gs s ≡ Some found → 1 + gates_visited (set ms s false) gs ≡ gates_visited ms gs
with_gate ms s [] found once low visited is = cc
with_gate ms s (g ∷ gs) found once low visited is =
    ap (λ k. 1 + k) (counted (set ms s false) g gs) ∙
    (elim (nat_eq g.out s) as (λ b. nat_eq g.out s ≡ b → cond b (Some g) (gate_of gs s) ≡ Some found → 1 + (one (is_visited (set ms s false) g.out) + gates_visited (set ms s false) gs) ≡ one (is_visited ms g.out) + gates_visited ms gs) [
      | true ↦ λ e f.
          let same : g.out ≡ s = grind arith in
          first_less (one (is_visited (set ms s false) g.out)) (gates_visited (set ms s false) gs) (gates_visited ms gs) (one (is_visited ms g.out))
          (ap one (ap (is_visited (set ms s false)) same ∙ unvisited_here ms s low)) (ap one (ap (is_visited ms) same ∙ visited))
          (others_same ms s gs (λ i d less equal. once 0 (suc i) d (omega arith) (omega arith) (same ∙ sym equal)))
      | false ↦ λ e f.
          elim (split ms s g.out) [
            | inl same ↦ absurd (grind arith)
            | inr as_was ↦
                later_less (one (is_visited (set ms s false) g.out)) (gates_visited (set ms s false) gs) (gates_visited ms gs) (one (is_visited ms g.out)) (ap one as_was)
                (with_gate ms s gs found (λ i j d less below. once (suc i) (suc j) d (omega arith) (omega arith)) low visited f)
          ]
    ] refl is) ∙ sym (counted ms g gs)

pub none_visited : (ms : List Bool) (gs : List GateLine) → ((s : ℕ) → IsVisited ms s → ⊥) → gates_visited ms gs ≡ 0
none_visited ms [] none = refl
none_visited ms (g ∷ gs) none =
    counted ms g gs ∙
    (elim (is_visited ms g.out) as (λ b. is_visited ms g.out ≡ b → one b + gates_visited ms gs ≡ 0) [
      | true ↦ λ e. absurd (none g.out e)
      | false ↦ λ e. let rest : gates_visited ms gs ≡ 0 = none_visited ms gs none in omega arith
    ] refl)

-- ---- the gates below a root

module _ (n : Net) (root : ℕ) (seen : List Bool) (are : AreBelow n root seen) where
  visited_below : (s : ℕ) → IsBelow (circuit n) root s → IsVisited seen s
  visited_below _ here = are.start
  visited_below _ (deeper {s} {t} h (g, there, out, among)) =
      at_contained (λ o. IsVisited seen o) g.operands t (are.closed g there (subst (IsVisited seen) (sym out) (visited_below s h))) among

  pub has_gates : (count : ℕ) → count ≡ gates_visited seen n.gates → HasGates (circuit n) root count
  has_gates count is = record {
    met = is_visited seen;
    are_met = λ s. (λ yes. are.below s (yes), λ below. visited_below s below);
    count = is;
  }

-- ---- a signal of a netlist

module _ (n : Net) (sound : IsNet n) (ms : List Bool) (s at : ℕ) (same : at ≡ s) where
  pub taken_gate : (g : GateLine) → at < length ms → IsVisited ms at → gate_of n.gates s ≡ Some g → 1 + gates_visited (set ms at false) n.gates ≡ gates_visited ms n.gates
  taken_gate g low visited is = with_gate ms at n.gates g sound.one_gate low visited (ap (gate_of n.gates) same ∙ is)

  pub taken_variable : gate_of n.gates s ≡ None → 0 + gates_visited (set ms at false) n.gates ≡ gates_visited ms n.gates
  taken_variable none = let rest : gates_visited (set ms at false) n.gates ≡ gates_visited ms n.gates = without_gate ms at n.gates (ap (gate_of n.gates) same ∙ none) in omega arith

-- ---- lists

pub zip_push : {A B : Type 0} (R : A → B → Type 0) (xs : List A) (ys : List B) (x : A) (y : B) → AllZip R xs ys → R x y → AllZip R (xs ++ x ∷ []) (ys ++ y ∷ [])
zip_push R [] [] x y a r = (r, tt)
zip_push R [] (z ∷ ys) x y a r = absurd a
zip_push R (z ∷ xs) [] x y a r = absurd a
zip_push R (w ∷ xs) (z ∷ ys) x y a r = (a.0, zip_push R xs ys x y a.1 r)

pub past_all : (xs : List ℕ) (i s : ℕ) → length xs ≤ i → Contains (drop i xs) s → ⊥
past_all [] zero s past (k, low, at) = omega arith
past_all [] (suc i) s past (k, low, at) = omega arith
past_all (x ∷ xs) zero s past among = omega arith
past_all (x ∷ xs) (suc i) s past among = past_all xs i s (omega arith) among
