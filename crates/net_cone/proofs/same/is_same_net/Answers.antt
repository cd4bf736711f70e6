use Rattle.std.proofs.Common.{◌≡◌, ◌∙◌, sym}
use Rattle.net_cone.proofs.Unique.{circuit_is}
use Rattle.net_cone.proofs.same.is_same_net.Goals as goal

pub returns : goal.returns
returns c = λ same.
    let one = c.args.one.now in
    let other = c.args.other.now in
    let gates : one.gates ≡ other.gates = sym c.gates.ensures.value ∙ c.are_same_gates.ensures c.if-not-are_same_gates.false ∙ c.gates-2.ensures.value in
    let registers : one.registers ≡ other.registers = sym c.registers.ensures.value ∙ c.are_same_gates-2.ensures c.if-not-are_same_gates-2.false ∙ c.registers-2.ensures.value in
    let inputs : one.inputs ≡ other.inputs = sym c.inputs.ensures.value ∙ c.are_same_signals.ensures c.if-not-are_same_signals.false ∙ c.inputs-2.ensures.value in
    let outputs : one.outputs ≡ other.outputs = sym c.outputs.ensures.value ∙ c.are_same_signals-2.ensures c.if-not-are_same_signals-2.false ∙ c.outputs-2.ensures.value in
    circuit_is one other (c.are_same_names.ensures same) inputs outputs gates registers
