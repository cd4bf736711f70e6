use Rattle.std.proofs.Common.{◌≡◌, ℕ, List, map, sym, ap, subst, ◌∙◌}
use Rattle.std.specs.Prelude.{All}
use Rattle.std.proofs.lemmas.Option.{get_or_from_slice_get}
use Rattle.net_bench.specs.Labels.{value_of}
use Rattle.net_simulate.specs.Schedules.{Equation}
use Rattle.pair_graph.specs.Literals.{Parts}
use Rattle.pair_graph.specs.Graphs.{HasNode, value}
use Rattle.net_merge.specs.SignalLiterals.{literal_at}
use Rattle.net_merge.proofs.Stepping.{operand_values, operands_have}
use Rattle.net_merge.proofs.signals.scheduled_literal.Goals as goal

pub gate_literal-requires-clause-operands : goal.gate_literal-requires-clause-operands
gate_literal-requires-clause-operands g c κs within =
    let ops : List ℕ = c.gate-gate.result.operands.now in
    let are : c.as_slice.result.now ≡ map (literal_at c.args.literals.now) ops = c.as_slice.ensures.value ∙ c.in_ok-operands.ensures in
    subst (λ (ls : List Parts). All (HasNode c.args.graph.now) ls) (sym are) (operands_have c.args.graph.now c.args.literals.now c.requires.has ops)

pub returns-clause-value : goal.returns-clause-value
returns-clause-value g c = λ d x.
    let graph = c.args.graph.now in
    let ls = c.args.literals.now in
    let e : Equation = record { out = c.gate-gate.result.out; kind = c.gate-gate.result.kind; operands = c.gate-gate.result.operands.now } in
    let are : c.as_slice.result.now ≡ map (literal_at ls) e.operands = c.as_slice.ensures.value ∙ c.in_ok-operands.ensures in
    c.in_ok-literal.ensures.value x ∙ ap (λ (ms : List Parts). value_of e.kind (map (value graph x) ms)) are ∙
    ap (value_of e.kind) (operand_values graph ls x e.operands) ∙
    sym (ap (λ (a : Equation). value_of a.kind (map (λ (s : ℕ). value graph x (literal_at ls s)) a.operands))
    (get_or_from_slice_get c.args.schedule.now c.args.place e d c.gate-gate.ensures))
