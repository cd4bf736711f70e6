use Rattle.std.proofs.Common.{◌∙◌, ◌++◌, [], map, sym, ap, subst}
use Rattle.net_bench.specs.declared.netlist.GateLine.{GateLine}
use Rattle.net_bench.specs.Judge.{statements_in}
use Rattle.net_bench.specs.Circuit.{Net, circuit, IsNet}
use Rattle.net_bench.proofs.CircuitOf.{net}
use Rattle.net_bench.proofs.Building.{same_net, roles}
use Rattle.net_bench.proofs.Driving.{driven_same}
use Rattle.net_bench.proofs.reader.netlist_of.Goals as goal

pub ranks_for-requires-clause-gates : goal.ranks_for-requires-clause-gates
ranks_for-requires-clause-gates c = c.as_slice-5.ensures.value ∙ ap (λ (n : Net). n.gates) (same_net (statements_in c.args.text.now) c.args.symbols [] c.requires.table_matches)

pub invariant_of-result : goal.invariant_of-result
invariant_of-result c = (
  subst IsNet (sym (same_net (statements_in c.args.text.now) c.args.symbols c.in_ok-ranks.ranks.items c.requires.table_matches))
      (net (statements_in c.args.text.now) c.requires.sound c.requires.defined c.in_ok-ranks.ranks.items c.in_ok-ranks.ensures.ranks),
  c.in_ok-variables.ensures ∙ ap (λ xs. xs ++ map (λ (g : GateLine). g.out) c.as_slice-2.result.now) c.as_slice.ensures.value ∙
      ap (λ gs. c.args.symbols.inputs.items ++ map (λ (g : GateLine). g.out) gs) c.as_slice-2.ensures.value,
  roles (statements_in c.args.text.now) c.args.symbols c.requires.table_matches c.requires.sound c.requires.defined c.in_ok-ranks.ranks.items,
)

pub returns-clause-accepted : goal.returns-clause-accepted
returns-clause-accepted c = (
  ap circuit (same_net (statements_in c.args.text.now) c.args.symbols c.in_ok-ranks.ranks.items c.requires.table_matches),
  subst IsNet (sym (same_net (statements_in c.args.text.now) c.args.symbols c.in_ok-ranks.ranks.items c.requires.table_matches))
      (net (statements_in c.args.text.now) c.requires.sound c.requires.defined c.in_ok-ranks.ranks.items c.in_ok-ranks.ensures.ranks),
)

pub ranks_for-requires-clause-driven : goal.ranks_for-requires-clause-driven
ranks_for-requires-clause-driven c =
    let ss = statements_in c.args.text.now in
    let variables = c.as_slice-4.ensures.value ∙ c.in_ok-variables.ensures ∙ ap (λ xs. xs ++ map (λ (g : GateLine). g.out) c.as_slice-2.result.now) c.as_slice.ensures.value ∙
    ap (λ gs. c.args.symbols.inputs.items ++ map (λ (g : GateLine). g.out) gs) c.as_slice-2.ensures.value in
    driven_same (record { names = c.args.symbols.names; inputs = c.args.symbols.inputs.items; outputs = c.args.symbols.outputs.items; gates = c.args.symbols.gates.items; registers = c.args.symbols.registers.items; ranks = [] }) c.args.symbols.symbols.items (roles ss c.args.symbols c.requires.table_matches c.requires.sound c.requires.defined []) c.as_slice-3.result.now c.as_slice-4.result.now c.as_slice-5.result.now
    c.as_slice-3.ensures.value variables c.as_slice-5.ensures.value
