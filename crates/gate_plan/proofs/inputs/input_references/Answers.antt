use Rattle.net_order.specs.Order.{level_in}
use Rattle.gate_plan.proofs.Running.{inputs_all}
use Rattle.gate_plan.proofs.inputs.input_references.Goals as goal

pub returns : goal.returns
returns c =
    inputs_all c.args.netlist.now (level_in c.args.pairing.now c.args.which) c.args.variables.now c.loop-input.references.items c.variables-input-items.result.now c.loop-input.input-index
    c.variables-input-items.ensures.value c.loop-input-test.false c.loop-input.auto.input-index-end c.loop-input.invariant.each c.loop-input.invariant.inputs c.loop-input.invariant.others
