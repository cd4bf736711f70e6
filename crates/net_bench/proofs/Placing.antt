-- Roles of signals, which are set one at a time.
use Rattle.std.proofs.Common.{◌≡◌, ◌≢◌, ◌⊎◌, inl, inr, ℕ, zero, suc, ◌<◌, List, true, false, refl, sym, ap, ◌∙◌, subst, length, get_or, ◌++◌, [], ◌∷◌, map, arith}
use Rattle.std.proofs.Math.ListN.{set}
use Rattle.std.specs.Prelude.{nat_eq, replicate, Contains, All}
use Rattle.std.proofs.lemmas.List.{get_or-set_same, get_or-set_other}
use Rattle.std.proofs.lemmas.Option.{slice_get_within, get_or_from_slice_get}
use Rattle.net_bench.specs.declared.netlist.GateLine.{GateLine}
use Rattle.net_bench.specs.declared.netlist.Role.{Role}
use Rattle.net_bench.specs.declared.netlist.Role.TheVariants.{Undefined as undefined}
use Rattle.net_bench.specs.declared.symbols.Symbol.{Symbol}
use Rattle.net_bench.specs.Circuit.{Net, HasRole, IsNet, IsDefined, circuit}
use Rattle.net_bench.specs.Symbols.{AreRoles, blank, is_defined_role}
use Rattle.net_bench.specs.Assembly.{role_in, AreRolesRight, HasRoleSet, KeepsRoles}

role_here : (ss : List Symbol) (i : ℕ) (x : Symbol) → i < length ss → role_in (set ss i x) i ≡ x.role
role_here ss i x low = ap (λ (y : Symbol). y.role) (get_or-set_same ss i x blank low)

role_there : (ss : List Symbol) (i s : ℕ) (x : Symbol) → s ≢ i → role_in (set ss i x) s ≡ role_in ss s
role_there ss i s x other = ap (λ (y : Symbol). y.role) (get_or-set_other ss i s x blank other)

-- after a set, a fact is true of each signal's role if it is true of the new role and was true of the others
by_place : (ss : List Symbol) (i : ℕ) (x : Symbol) (P : ℕ → Role → Type 0) → i < length ss → P i x.role → (s : ℕ) → (s ≢ i → P s (role_in ss s)) → P s (role_in (set ss i x) s)
by_place ss i x P low new s old =
    elim (nat_eq s i) as (λ b. nat_eq s i ≡ b → P s (role_in (set ss i x) s)) [
      | true ↦ λ e. let same : s ≡ i = grind arith in
          subst (λ k. P k (role_in (set ss i x) k)) (sym same) (subst (P i) (sym (role_here ss i x low)) new)
      | false ↦ λ e. let other : s ≢ i = (λ f. grind arith) in
          subst (P s) (sym (role_there ss i s x other)) (old other)
    ] refl

pub right_set : (n : Net) (ss : List Symbol) (i : ℕ) (x : Symbol) → i < length ss → HasRole n i x.role → AreRolesRight n ss → AreRolesRight n (set ss i x)
right_set n ss i x low is right s = by_place ss i x (λ k r. (r ≡ undefined) ⊎ HasRole n k r) low (inr is) s (λ other. right s)

pub placed_set : (ss : List Symbol) (i : ℕ) (x : Symbol) → i < length ss → is_defined_role x.role ≡ true → HasRoleSet (set ss i x) i
placed_set ss i x low some = ap is_defined_role (role_here ss i x low) ∙ some

pub kept_set : (ss : List Symbol) (i : ℕ) (x : Symbol) → i < length ss → is_defined_role x.role ≡ true → KeepsRoles ss (set ss i x)
kept_set ss i x low some s was = by_place ss i x (λ k r. is_defined_role r ≡ true) low some s (λ other. was)

pub none_yet : (n s : ℕ) (x : Symbol) → x.role ≡ undefined → role_in (replicate n x) s ≡ undefined
none_yet zero s x e = refl
none_yet (suc n) zero x e = e
none_yet (suc n) (suc s) x e = none_yet n s x e

-- ---- all roles are set

pub none_right : (n : Net) (ss : List Symbol) → ((s : ℕ) → role_in ss s ≡ undefined) → AreRolesRight n ss
none_right n ss none s = inl (none s)

pub inputs_low : (n : Net) → IsNet n → All (λ s. s < length n.names) n.inputs
inputs_low n sound i d low = in_front n.inputs (map (λ g. g.out) n.registers) (length n.names) sound.variables i d low
  where
    in_front : (xs ys : List ℕ) (bound : ℕ) → All (λ s. s < bound) (xs ++ ys) → (i d : ℕ) → i < length xs → get_or xs i d < bound
    in_front [] ys bound all i d low = absurd (omega arith)
    in_front (x ∷ xs) ys bound all zero d low = all zero d (omega arith)
    in_front (x ∷ xs) ys bound all (suc i) d low = in_front xs ys bound (λ j e less. all (suc j) e (omega arith)) i d (omega arith)

pub registers_low : (n : Net) → IsNet n → (bound : ℕ) → bound ≡ length n.names → All (λ g. g.out < bound) n.registers
registers_low n sound bound is i d low =
    subst (λ b. (get_or n.registers i d).out < b) (sym is)
    (behind n.inputs n.registers (length n.names) sound.variables i d low)
  where
    first : (gs : List GateLine) (bound : ℕ) → All (λ s. s < bound) (map (λ g. g.out) gs) → (i : ℕ) (d : GateLine) → i < length gs → (get_or gs i d).out < bound
    first [] bound all i d low = absurd (omega arith)
    first (g ∷ gs) bound all zero d low = all zero 0 (omega arith)
    first (g ∷ gs) bound all (suc i) d low = first gs bound (λ j e less. all (suc j) e (omega arith)) i d (omega arith)

    behind : (xs : List ℕ) (gs : List GateLine) (bound : ℕ) → All (λ s. s < bound) (xs ++ map (λ g. g.out) gs) → (i : ℕ) (d : GateLine) → i < length gs → (get_or gs i d).out < bound
    behind [] gs bound all i d low = first gs bound all i d low
    behind (x ∷ xs) gs bound all i d low = behind xs gs bound (λ j e less. all (suc j) e (omega arith)) i d low

-- a list's elements have the role
placed_at : (ss : List Symbol) (xs : List ℕ) (s : ℕ) → All (HasRoleSet ss) xs → Contains xs s → HasRoleSet ss s
placed_at ss xs s all (i, low, at) = subst (HasRoleSet ss) at (all i s low)

line_at : (ss : List Symbol) (gs : List GateLine) (g : GateLine) → All (λ h. HasRoleSet ss h.out) gs → Contains gs g → HasRoleSet ss g.out
line_at ss gs g all (i, low, at) = subst (λ (h : GateLine). HasRoleSet ss h.out) at (all i g low)

-- a variable is an input or a register
split_variable : (xs : List ℕ) (gs : List GateLine) (s i : ℕ) → i < length (xs ++ map (λ g. g.out) gs) → get_or (xs ++ map (λ g. g.out) gs) i s ≡ s →
    Contains xs s ⊎ ((g : GateLine) × Contains gs g × (g.out ≡ s))
split_variable [] [] s i low at = absurd (omega arith)
split_variable [] (g ∷ gs) s zero low at = inr (g, (0, omega arith, refl), at)
split_variable [] (g ∷ gs) s (suc i) low at = elim (split_variable [] gs s i (omega arith) at) [
  | inl (j, less, is) ↦ absurd (omega arith)
  | inr (h, (j, less, is), out) ↦ inr (h, (suc j, omega arith, is), out)
]
split_variable (x ∷ xs) gs s zero low at = inl (0, omega arith, at)
split_variable (x ∷ xs) gs s (suc i) low at = elim (split_variable xs gs s i (omega arith) at) [
  | inl (j, less, is) ↦ inl (suc j, omega arith, is)
  | inr r ↦ inr r
]

module _ (n : Net) (sound : IsNet n) (ss : List Symbol) (each : length ss ≡ length n.names) (right : AreRolesRight n ss)
    (inputs : All (HasRoleSet ss) n.inputs) (gates : All (λ g. HasRoleSet ss g.out) n.gates) (registers : All (λ g. HasRoleSet ss g.out) n.registers) where
  not_undefined : (r : Role) → is_defined_role r ≡ true → r ≡ undefined → ⊥
  not_undefined r some none = let bad : false ≡ true = sym (ap is_defined_role none) ∙ some in cc

  placed : (s : ℕ) → IsDefined (circuit n) s → HasRoleSet ss s
  placed s (inl (i, low, at)) = elim (split_variable n.inputs n.registers s i low at) [
    | inl there ↦ placed_at ss n.inputs s inputs there
    | inr (g, there, out) ↦ subst (HasRoleSet ss) out (line_at ss n.registers g registers there)
  ]
  placed s (inr (g, there, out)) = subst (HasRoleSet ss) out (line_at ss n.gates g gates there)

  pub all_right : AreRoles n ss
  all_right = record {
    each = each;
    right = λ i s at.
        let low : i < length n.names = subst (λ k. i < k) each (slice_get_within ss i s at) in
        let is : role_in ss i ≡ s.role = ap (λ (y : Symbol). y.role) (get_or_from_slice_get ss i s blank at) in
        subst (HasRole n i) is (elim (right i) [
          | inl none ↦ absurd (not_undefined (role_in ss i) (placed i (sound.defined i low)) none)
          | inr has ↦ has
        ]);
  }
