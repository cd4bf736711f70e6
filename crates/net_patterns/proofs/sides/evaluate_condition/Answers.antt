use Rattle.std.proofs.Common.{◌<◌, length, subst, sym}
use Rattle.net_bench.specs.Circuit.{Net}
use Rattle.net_order.specs.Order.{given_level}
use Rattle.net_patterns.specs.Simulated.{HaveOutput, IsOfCondition}
use Rattle.net_patterns.proofs.Differing.{condition_shown}
use Rattle.net_patterns.proofs.sides.evaluate_condition.Goals as goal

pub returns-in-Some-clause-holds : goal.returns-in-Some-clause-holds
returns-in-Some-clause-holds c = λ given p of.
    let old = c.in-Some.condition in
    let new = c.evaluate.new.self in
    let some : 0 < length old.net.outputs = subst HaveOutput c.in-Some.is c.requires in
    condition_shown given p old new c.args.at.now c.output.result (subst (IsOfCondition given (given_level p)) c.in-Some.is of) c.evaluate.ensures.kept c.evaluate.ensures.sound
    (subst (λ (n : Net). 0 < length n.outputs) (sym c.evaluate.ensures.kept.net) some) c.evaluate.ensures.values c.output.ensures
