use Rattle.std.proofs.Common.{◌≡◌, arith}
use Rattle.net_cone.specs.Walk.{gates_visited}
use Rattle.net_cone.proofs.Unvisiting.{none_visited, past_all}
use Rattle.net_cone.proofs.counting.unvisit_all.Goals as goal

pub returns-clause-gates : goal.returns-clause-gates
returns-clause-gates c =
    let none : gates_visited c.loop-place.seen c.args.net.now.gates ≡ 0 =
    none_visited c.loop-place.seen c.args.net.now.gates (λ s now. past_all c.args.met.now c.loop-place.place s c.loop-place-test.false (c.loop-place.invariant.met s now)) in
    let whole = c.loop-place.invariant.gates in
    omega arith
