-- The gate that a symbol has as its role.
use Rattle.std.proofs.Common.{◌≡◌, ◌⊎◌, inl, inr, ℕ, zero, suc, ◌<◌, List, [], ◌∷◌, refl, sym, ap, ◌∙◌, subst, length, map, arith}
use Rattle.std.specs.Prelude.{Contains, Some, slice_get}
use Rattle.std.proofs.lemmas.Option.{slice_get_within, get_or_from_slice_get}
use Rattle.net_bench.specs.declared.netlist.GateLine.{GateLine}
use Rattle.net_bench.specs.declared.netlist.Role.{Role}
use Rattle.net_bench.specs.declared.netlist.Role.TheVariants.{Undefined as undefined, Input as input, Gate as gate, Register as register}
use Rattle.net_bench.specs.declared.symbols.Symbol.{Symbol}
use Rattle.net_bench.specs.Circuit.{Net, HasRole, circuit, variables_of}
use Rattle.net_bench.specs.Heights.{IsDriven, gate_place, place_by}
use Rattle.net_bench.specs.Symbols.{AreRoles}
use Rattle.net_bench.proofs.Built.{register_out}
use Rattle.net_bench.proofs.CircuitOf.{in_front, in_back}
use Rattle.net_bench.proofs.Deep.{gate_is}

by_role : (n : Net) (symbols : List Symbol) (s : ℕ) (r : Role) → gate_place (slice_get symbols s) ≡ place_by r → HasRole n s r → Contains (variables_of (circuit n)) s ⊎ IsDriven n.gates symbols s
by_role n symbols s undefined e role = absurd role
by_role n symbols s input e role = inl (in_front n.inputs (map (λ (g : GateLine). g.out) n.registers) s role)
by_role n symbols s (gate p) e (g, at, out) =
    let low = slice_get_within n.gates p g at in
    inr (p, e, low, (gate_is n.gates p g low (sym (get_or_from_slice_get n.gates p g g at))).1 ∙ out)
by_role n symbols s (register p) e (g, at, out) =
    inl (in_back n.inputs (map (λ (g : GateLine). g.out) n.registers) s (subst (Contains (map (λ (g : GateLine). g.out) n.registers)) out (register_out n.registers p g at)))

pub driven_by : (n : Net) (symbols : List Symbol) → AreRoles n symbols → (s : ℕ) → s < length symbols → Contains (variables_of (circuit n)) s ⊎ IsDriven n.gates symbols s
driven_by n symbols roles s low =
    let at = there symbols s low in
    by_role n symbols s at.0.role (ap gate_place at.1) (roles.right s at.0 at.1)
  where
    there : (xs : List Symbol) (i : ℕ) → i < length xs → (x : Symbol) × (slice_get xs i ≡ Some x)
    there [] i h = absurd (omega arith)
    there (x ∷ xs) zero h = (x, refl)
    there (x ∷ xs) (suc i) h = there xs i (omega arith)

pub driven_same : (n : Net) (symbols : List Symbol) → AreRoles n symbols → (ss : List Symbol) (vs : List ℕ) (gs : List GateLine) → ss ≡ symbols → vs ≡ variables_of (circuit n) → gs ≡ n.gates →
    (s : ℕ) → s < length ss → Contains vs s ⊎ IsDriven gs ss s
driven_same n symbols roles ss vs gs is_ss is_vs is_gs =
    subst (λ xs. (s : ℕ) → s < length xs → Contains vs s ⊎ IsDriven gs xs s) (sym is_ss)
    (subst (λ ws. (s : ℕ) → s < length symbols → Contains ws s ⊎ IsDriven gs symbols s) (sym is_vs)
    (subst (λ hs. (s : ℕ) → s < length symbols → Contains (variables_of (circuit n)) s ⊎ IsDriven hs symbols s) (sym is_gs) (driven_by n symbols roles)))
