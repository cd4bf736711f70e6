use Rattle.std.proofs.Common.{ℕ, ◌<◌, get_or}
use Rattle.net_bench.specs.declared.netlist.GateLine.{GateLine}
use Rattle.net_bench.specs.Assembly.{AreRolesRight, HasRoleSet, KeepsRoles, net_of_parts}
use Rattle.net_bench.proofs.assembly.set_gate_roles.Given as goal

abbrev pub invariant-loop-place : goal.invariant-loop-place
invariant-loop-place l = record {
  right : AreRolesRight (net_of_parts l.parts) l.symbols;
  role_set : (k : ℕ) (d : GateLine) → k < l.place → HasRoleSet l.symbols (get_or l.parts.gates.items k d).out;
  kept : KeepsRoles l.initial.symbols l.symbols;
}
