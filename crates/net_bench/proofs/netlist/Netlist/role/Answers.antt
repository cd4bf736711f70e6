use Rattle.std.proofs.Common.{◌≡◌, slice_get, Some, subst}
use Rattle.net_bench.specs.Circuit.{Net, HasRole, gate_by, gate_of}
use Rattle.net_bench.proofs.Built.{role_gate}
use Rattle.net_bench.proofs.netlist.Netlist.role.Goals as goal

pub returns-clause-value : goal.returns-clause-value
returns-clause-value c = subst (λ (m : Net). HasRole m c.args.signal c.symbol_of.result.role) c.self.view_is (c.self.invariant.2.right c.args.signal c.symbol_of.result (subst (λ ss. slice_get ss c.args.signal ≡ Some c.symbol_of.result) c.as_slice.ensures.value c.symbol_of.ensures))

pub returns-clause-gate : goal.returns-clause-gate
returns-clause-gate c =
    subst (λ (m : Net). gate_of m.gates c.args.signal ≡ gate_by m.gates c.symbol_of.result.role) c.self.view_is
    (role_gate (record { names = c.self.inside.names; inputs = c.self.inside.inputs.items; outputs = c.self.inside.outputs.items; gates = c.self.inside.gates.items; registers = c.self.inside.registers.items; ranks = c.self.inside.ranks.items }) c.self.invariant.0 c.args.signal c.symbol_of.result.role
    (c.self.invariant.2.right c.args.signal c.symbol_of.result (subst (λ ss. slice_get ss c.args.signal ≡ Some c.symbol_of.result) c.as_slice.ensures.value c.symbol_of.ensures)))
