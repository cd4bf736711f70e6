use Rattle.std.proofs.Common.{◌∙◌, ◌∷◌, ◌++◌, [], ap, refl}
use Rattle.std.specs.Prelude.{reverse}
use Rattle.net_bench.specs.Circuit.{circuit}
use Rattle.net_order.specs.declared.walk.Frame.TheVariants.{Enter}
use Rattle.net_order.proofs.Walks.{fewer, fewer_opened, enter_visited, enter_input, enter_gate}
use Rattle.net_order.proofs.walk.enter.Goals as goal

pub returns-then-index-clause-walking : goal.returns-then-index-clause-walking
returns-then-index-clause-walking c =
    enter_visited c.args.ordered_net.now.operand_order (circuit c.args.ordered_net.now.net.now) _ c.args.found.now.items c.args.seen.now.items c.args.signal (reverse c.args.stack.now.items) c.requires.walking c.index.result.now c.index.ensures c.if-index.true

pub returns-then-index-clause-fewer_steps_left : goal.returns-then-index-clause-fewer_steps_left
returns-then-index-clause-fewer_steps_left c = fewer c.args.ordered_net.now.operand_order (circuit c.args.ordered_net.now.net.now) (Enter c.args.signal) (reverse c.args.stack.now.items)

pub returns-in_ok-push-in-None-clause-walking : goal.returns-in_ok-push-in-None-clause-walking
returns-in_ok-push-in-None-clause-walking c =
    enter_input c.args.ordered_net.now.operand_order c.args.ordered_net.now.net.now c.requires.ordered_net.sound _ c.args.found.now.items c.args.seen.now.items c.args.signal (reverse c.args.stack.now.items) c.requires.walking
    c.index.result.now c.index.ensures c.if-index.false c.in-None.ensures c.push.new.self.items (c.in_ok-push-in-None.ensures.items ∙ ap (λ k. c.args.found.now.items ++ k ∷ []) c.of.ensures)

pub returns-in_ok-push-in-None-clause-fewer_steps_left : goal.returns-in_ok-push-in-None-clause-fewer_steps_left
returns-in_ok-push-in-None-clause-fewer_steps_left c = fewer c.args.ordered_net.now.operand_order (circuit c.args.ordered_net.now.net.now) (Enter c.args.signal) (reverse c.args.stack.now.items)

pub returns-in_ok-push_operands-in-Some-clause-walking : goal.returns-in_ok-push_operands-in-Some-clause-walking
returns-in_ok-push_operands-in-Some-clause-walking c =
    enter_gate c.args.ordered_net.now.operand_order c.args.ordered_net.now.net.now c.requires.ordered_net.sound _ c.args.found.now.items c.args.seen.now.items c.args.signal (reverse c.args.stack.now.items) c.requires.walking
    c.in-Some.operands.now c.in-Some.ensures c.args.stack.now.items c.push-in-Some.new.self.items c.push_operands.new.stack.items refl c.in_ok-push-in-Some.ensures.items c.in_ok-push_operands-in-Some.ensures

pub returns-in_ok-push_operands-in-Some-clause-fewer_steps_left : goal.returns-in_ok-push_operands-in-Some-clause-fewer_steps_left
returns-in_ok-push_operands-in-Some-clause-fewer_steps_left c =
    fewer_opened c.args.ordered_net.now.operand_order c.args.ordered_net.now.net.now c.requires.ordered_net.sound _ c.args.found.now.items c.args.seen.now.items c.args.signal (reverse c.args.stack.now.items) c.requires.walking
    c.in-Some.operands.now c.in-Some.ensures c.args.stack.now.items c.push-in-Some.new.self.items c.push_operands.new.stack.items refl c.in_ok-push-in-Some.ensures.items c.in_ok-push_operands-in-Some.ensures
