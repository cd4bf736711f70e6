use Rattle.std.proofs.Common.{◌∙◌, ◌<◌, length, arith}
use Rattle.net_cone.specs.Walk.{IsVisited}
use Rattle.net_cone.proofs.Unvisiting.{taken_gate, taken_variable}
use Rattle.net_cone.proofs.Walking.{no_gate_by}
use Rattle.net_cone.proofs.counting.unvisit.Goals as goal

pub returns-in-Gate-clause-gates : goal.returns-in-Gate-clause-gates
returns-in-Gate-clause-gates c =
    let (g, at, out) = c.in-Gate.ensures.value in
    let low : c.number-place.result < length c.args.seen.now = omega arith in
    let visited : IsVisited c.args.seen.now c.number-place.result = grind arith in
    taken_gate c.args.net.now c.role.ensures.sound c.args.seen.now c.args.signal c.number-place.result c.number-place.ensures g low visited (c.in-Gate.ensures.gate ∙ at)

pub returns-in_default-clause-gates : goal.returns-in_default-clause-gates
returns-in_default-clause-gates c =
    taken_variable c.args.net.now c.role.ensures.sound c.args.seen.now c.args.signal c.number-place.result c.number-place.ensures
    (c.role.ensures.gate ∙ no_gate_by c.args.net.now.gates c.role.result c.in_default.not-Gate)
