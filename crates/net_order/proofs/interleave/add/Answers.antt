use Rattle.std.proofs.Common.{◌∙◌}
use Rattle.net_order.proofs.Interleaving.{added_new, added_there, seen_of, visited_new}
use Rattle.net_order.proofs.interleave.add.Goals as goal

pub returns-then-index-clause-added : goal.returns-then-index-clause-added
returns-then-index-clause-added c =
    added_there c.args.order.now.items c.args.last c.args.variable
    (seen_of c.args.seen.now.items c.args.order.now.items c.args.variable c.index.result.now c.requires.visited c.requires.low c.index.ensures ∙ c.if-index.true)

pub returns-clause-visited : goal.returns-clause-visited
returns-clause-visited c =
    visited_new c.args.seen.now.items c.args.order.now.items c.put_after.new.order.items c.args.last c.args.variable c.requires.visited c.requires.low c.in_ok-put_after.ensures

pub returns-clause-added : goal.returns-clause-added
returns-clause-added c =
    added_new c.args.order.now.items c.put_after.new.order.items c.args.last c.args.variable
    (seen_of c.args.seen.now.items c.args.order.now.items c.args.variable c.index.result.now c.requires.visited c.requires.low c.index.ensures ∙ c.if-index.false) c.in_ok-put_after.ensures
