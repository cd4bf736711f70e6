use Rattle.std.proofs.Common.{◌<◌, ◌∙◌, ap, length, subst}
use Rattle.std.proofs.lemmas.Option.{get_or_from_slice_get}
use Rattle.net_simulate.specs.Columns.{column}
use Rattle.net_simulate.specs.Schedules.{Equation}
use Rattle.net_simulate.proofs.Setting.{gate_set}
use Rattle.net_simulate.proofs.simulation.set_gate.Goals as goal

pub put-requires : goal.put-requires
put-requires g c =
    let e : Equation = record { out = c.gate-gate.result.out; kind = c.gate-gate.result.kind; operands = c.gate-gate.result.operands.now } in
    subst (λ (a : Equation). a.out < length c.args.values.now) (get_or_from_slice_get c.args.schedule.now c.args.place e e c.gate-gate.ensures) (c.requires.inside c.args.place e c.requires.place).0

pub returns : goal.returns
returns g c = λ d i low.
    let e : Equation = record { out = c.gate-gate.result.out; kind = c.gate-gate.result.kind; operands = c.gate-gate.result.operands.now } in
    ap (column g.V.Packed.bit i) c.put.ensures ∙
    gate_set g.V.Packed.bit i c.args.schedule.now c.args.place e d c.args.values.now c.value_of-value.result c.gate-gate.ensures (c.value_of-value.ensures i low)
