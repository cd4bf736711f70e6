-- A walk below a root, signal by signal.
use Rattle.std.proofs.Common.{◌≡◌, ◌⊎◌, inl, inr, ℕ, zero, suc, ◌+◌, ◌<◌, List, [], ◌∷◌, ◌++◌, Bool, false, refl, sym, ap, ◌∙◌, subst, map, take, length, get_or, arith}
use Rattle.std.specs.Prelude.{Contains, All, Option, Some, None, IsTrue, filter_map, slice_get, replicate}
use Rattle.net_bench.specs.Statement.{takes_one}
use Rattle.net_bench.proofs.OneLabelling.{at_contained}
use Rattle.std.proofs.lemmas.Option.{slice_get-get_or, slice_get_within, get_or_from_slice_get}
use Rattle.std.proofs.lemmas.List.{append-nil, get_or_default, take_more}
use Rattle.std.proofs.lemmas.List.Elements.{filter_map-append}
use Rattle.net_bench.specs.declared.netlist.GateLine.{GateLine}
use Rattle.net_bench.specs.declared.netlist.Role.{Role}
use Rattle.net_bench.specs.declared.netlist.Role.TheVariants.{Gate as gate, Undefined, Input, Register}
use Rattle.net_bench.specs.Circuit.{Net, IsNet, circuit, gate_by, gate_of}
use Rattle.net_bench.proofs.Built.{role_gate}
use Rattle.net_cone.specs.Cones.{IsBelow, here, deeper}
use Rattle.net_cone.specs.Walk.{AreBelow, IsVisited, IsWalkBelow, KeepsVisited, gates_of}

pub contained_at : (xs : List ℕ) (i d : ℕ) → i < length xs → Contains xs (get_or xs i d)
contained_at xs i d low = (i, low, get_or_default xs i (get_or xs i d) d low)

-- each gate is found by its signal
pub gate_found : (n : Net) → IsNet n → (g : GateLine) → Contains n.gates g → gate_of n.gates g.out ≡ Some g
gate_found n sound g (i, low, at) =
    let is : slice_get n.gates i ≡ Some g = slice_get-get_or n.gates i g low ∙ ap (λ x. Some x) at in
    role_gate n sound g.out (gate i) (g, is, refl) ∙ is

-- the gate of one signal
one_of : (gates : List GateLine) (s : ℕ) (o : Option GateLine) → gate_of gates s ≡ o → gates_of gates (s ∷ []) ≡ filter_map (λ x. x) (o ∷ [])
one_of gates s o is = ap (λ x. filter_map (λ y. y) (x ∷ [])) is

-- the gates of gates' signals are these gates
pub all_found : (n : Net) → IsNet n → (gs : List GateLine) → All (Contains n.gates) gs → gates_of n.gates (map (λ g. g.out) gs) ≡ gs
all_found n sound [] all = refl
all_found n sound (g ∷ gs) all =
    filter_map-append (gate_of n.gates) (g.out ∷ []) (map (λ h. h.out) gs) ∙
    ap (λ xs. xs ++ gates_of n.gates (map (λ h. h.out) gs)) (one_of n.gates g.out (Some g) (gate_found n sound g (all 0 g (omega arith)))) ∙
    ap (λ hs. g ∷ hs) (all_found n sound gs (λ i d low. all (suc i) d (omega arith)))

-- one more signal, without a gate or with one
module _ (gates : List GateLine) (signals : List ℕ) (p s : ℕ) (low : p < length signals) (is : s ≡ get_or signals p s) where
  one_more : (o : Option GateLine) → gate_of gates s ≡ o → gates_of gates (take (p + 1) signals) ≡ gates_of gates (take p signals) ++ filter_map (λ x. x) (o ∷ [])
  one_more o found =
      ap (gates_of gates) (take_more signals p s low) ∙ filter_map-append (gate_of gates) (take p signals) (get_or signals p s ∷ []) ∙
      ap (λ t. gates_of gates (take p signals) ++ gates_of gates (t ∷ [])) (sym is) ∙ ap (λ xs. gates_of gates (take p signals) ++ xs) (one_of gates s o found)

  pub no_more : gate_of gates s ≡ None → gates_of gates (take (p + 1) signals) ≡ gates_of gates (take p signals)
  no_more none = one_more None none ∙ append-nil (gates_of gates (take p signals))

  pub gate_more : (g : GateLine) → gate_of gates s ≡ Some g → gates_of gates (take (p + 1) signals) ≡ gates_of gates (take p signals) ++ g ∷ []
  gate_more g found = one_more (Some g) found

-- the last one on the stack, or one of the others
pub last_or : (xs : List ℕ) (y s : ℕ) → Contains (xs ++ y ∷ []) s → (y ≡ s) ⊎ Contains xs s
last_or [] y s (zero, low, at) = inl at
last_or [] y s (suc i, low, at) = absurd (omega arith)
last_or (x ∷ xs) y s (zero, low, at) = inr (0, omega arith, at)
last_or (x ∷ xs) y s (suc i, low, at) = elim (last_or xs y s (i, omega arith, at)) [
  | inl is ↦ inl is
  | inr (j, less, is) ↦ inr (suc j, omega arith, is)
]

shorter : (P : ℕ → Type 0) (xs : List ℕ) (y : ℕ) → All P (xs ++ y ∷ []) → All P xs
shorter P [] y all i d low = absurd (omega arith)
shorter P (x ∷ xs) y all zero d low = all zero d (omega arith)
shorter P (x ∷ xs) y all (suc i) d low = shorter P xs y (λ j e less. all (suc j) e (omega arith)) i d (omega arith)

last_of : (P : ℕ → Type 0) (xs : List ℕ) (y : ℕ) → All P (xs ++ y ∷ []) → P y
last_of P [] y all = all 0 0 (omega arith)
last_of P (x ∷ xs) y all = last_of P xs y (λ j e less. all (suc j) e (omega arith))

module _ (n : Net) (sound : IsNet n) (root s : ℕ) (old new : List Bool) (before after : List ℕ) (w : IsWalkBelow n root old (before ++ s ∷ [])) where
  -- a variable has no operands to visit
  pub pass_variable : gate_of n.gates s ≡ None → IsWalkBelow n root old before
  pass_variable none = record {
    each = w.each;
    start = w.start;
    below = w.below;
    waits = shorter (IsVisited old) before s w.waits;
    done = λ g among visited. elim (w.done g among visited) [
      | inl waits ↦ elim (last_or before s g.out waits) [
        | inl is ↦ let found : gate_of n.gates s ≡ Some g = subst (λ t. gate_of n.gates t ≡ Some g) (sym is) (gate_found n sound g among) in cc
        | inr rest ↦ inl rest
      ]
      | inr all ↦ inr all
    ];
  }

  -- the operands of its gate are visited
  pub pass_gate : (g : GateLine) → Contains n.gates g → g.out ≡ s → length new ≡ length n.names → All (IsVisited new) g.operands → KeepsVisited old new →
      ((t : ℕ) → IsVisited new t → IsVisited old t ⊎ (Contains g.operands t × Contains after t)) → ((t : ℕ) → Contains before t → Contains after t) →
      (All (IsVisited old) before → All (IsVisited new) after) → IsWalkBelow n root new after
  pass_gate g there out each operands kept only stay visited = record {
    each = each;
    start = kept root w.start;
    below = λ t now. elim (only t now) [
      | inl was ↦ w.below t was
      | inr (among, waits) ↦ deeper (w.below s (last_of (IsVisited old) before s w.waits)) (g, there, out, among)
    ];
    waits = visited (shorter (IsVisited old) before s w.waits);
    done = λ h among now. elim (only h.out now) [
      | inl was ↦ elim (w.done h among was) [
        | inl waits ↦ elim (last_or before s h.out waits) [
          | inl is ↦
              let one : gate_of n.gates s ≡ Some g = subst (λ t. gate_of n.gates t ≡ Some g) out (gate_found n sound g there) in
              let two : gate_of n.gates s ≡ Some h = subst (λ t. gate_of n.gates t ≡ Some h) (sym is) (gate_found n sound h among) in
              let same : g ≡ h = cc in
              inr (subst (λ (x : GateLine). All (IsVisited new) x.operands) same operands)
          | inr rest ↦ inl (stay h.out rest)
        ]
        | inr all ↦ inr (λ i d low. kept (get_or h.operands i d) (all i d low))
      ]
      | inr (o, waits) ↦ inl waits
    ];
  }

pub taken : (n : Net) (root s : ℕ) (seen : List Bool) (old rest : List ℕ) → old ≡ rest ++ s ∷ [] → IsWalkBelow n root seen old → IsWalkBelow n root seen (rest ++ s ∷ [])
taken n root s seen old rest is w = subst (IsWalkBelow n root seen) is w

pub taken_low : (n : Net) → IsNet n → (root s : ℕ) (seen : List Bool) (rest : List ℕ) → IsWalkBelow n root seen (rest ++ s ∷ []) → s < length n.names
taken_low n sound root s seen rest w = in_bounds seen s (length n.names) w.each (last_of (IsVisited seen) rest s w.waits)
  where
    in_bounds : (ms : List Bool) (i bound : ℕ) → length ms ≡ bound → IsVisited ms i → i < bound
    in_bounds [] i bound is visited = cc
    in_bounds (m ∷ ms) zero bound is visited = omega arith
    in_bounds (m ∷ ms) (suc i) zero is visited = absurd (omega arith)
    in_bounds (m ∷ ms) (suc i) (suc bound) is visited = let more : i < bound = in_bounds ms i bound (omega arith) visited in omega arith

pub begun : (n : Net) (root : ℕ) (old new : List Bool) (waiting : List ℕ) → length new ≡ length n.names → ((s : ℕ) → IsVisited old s → ⊥) → IsVisited new root →
    ((s : ℕ) → IsVisited new s → IsVisited old s ⊎ ((s ≡ root) × Contains waiting s)) → All (IsVisited new) waiting → IsWalkBelow n root new waiting
begun n root old new waiting each none visited only all = record {
  each = each;
  start = visited;
  below = λ s now. elim (only s now) [
    | inl was ↦ absurd (none s was)
    | inr (is, waits) ↦ subst (IsBelow (circuit n) root) (sym is) here
  ];
  waits = all;
  done = λ g among now. elim (only g.out now) [
    | inl was ↦ absurd (none g.out was)
    | inr (is, waits) ↦ inl waits
  ];
}

pub ended : (n : Net) (root : ℕ) (seen : List Bool) (waiting : List ℕ) → waiting ≡ [] → IsWalkBelow n root seen waiting → AreBelow n root seen
ended n root seen [] e w = record {
  each = w.each;
  start = w.start;
  below = w.below;
  closed = λ g among visited. elim (w.done g among visited) [
    | inl (i, low, at) ↦ absurd (omega arith)
    | inr all ↦ all
  ];
}
ended n root seen (x ∷ xs) e w = cc

pub none_seen : (count s : ℕ) → IsVisited (replicate count false) s → ⊥
none_seen zero s e = cc
none_seen (suc n) zero e = cc
none_seen (suc n) (suc s) e = none_seen n s e

pub no_gate_by : (gates : List GateLine) (r : Role) → ((p : ℕ) → r ≡ gate p → ⊥) → gate_by gates r ≡ None
no_gate_by gates Undefined none = refl
no_gate_by gates Input none = refl
no_gate_by gates (gate p) none = absurd (none p refl)
no_gate_by gates (Register p) none = refl

pub gate_here : (gates read : List GateLine) (p : ℕ) (g h : GateLine) → read ≡ gates → slice_get gates p ≡ Some g → h ≡ get_or read p h → h ≡ g
gate_here gates read p g h is at read_is = read_is ∙ ap (λ gs. get_or gs p h) is ∙ get_or_from_slice_get gates p g h at

pub gate_among : (gates : List GateLine) (p : ℕ) (g : GateLine) → slice_get gates p ≡ Some g → Contains gates g
gate_among gates p g at = (p, slice_get_within gates p g at, get_or_from_slice_get gates p g g at)

pub operands_low : (n : Net) → IsNet n → (g : GateLine) → Contains n.gates g → (bound : ℕ) → bound ≡ length n.names → All (λ t. t < bound) g.operands
operands_low n sound g among bound is = subst (λ b. All (λ t. t < b) g.operands) (sym is)
    (at_contained (λ g. All (λ s. s < length n.names) g.operands × (0 < length g.operands) × (IsTrue (takes_one g.kind) → length g.operands ≡ 1)) n.gates g sound.operands among).0

pub none_in : (P : ℕ → Type 0) (xs : List ℕ) → xs ≡ [] → All P xs
none_in P [] e = λ i d low. absurd (omega arith)
none_in P (x ∷ xs) e = cc
