use Rattle.std.proofs.Common.{subst}
use Rattle.net_bench.specs.Circuit.{circuit}
use Rattle.net_order.specs.Order.{condition}
use Rattle.pair_facts.specs.PairFacts.{IsFirstShown}
use Rattle.cone_check.proofs.at_once.put_shown.Goals as goal

pub shown_verdict-requires-clause-number : goal.shown_verdict-requires-clause-number
shown_verdict-requires-clause-number g c =
    let task = c.args.task.now in
    (subst (IsFirstShown (circuit task.first.now) (circuit task.second.now) (condition task.given) c.args.naming.now c.args.subject.now) c.in-Some.is c.requires.shown).0.0

pub shown_verdict-requires-clause-shown : goal.shown_verdict-requires-clause-shown
shown_verdict-requires-clause-shown g c =
    let task = c.args.task.now in
    let fact = subst (IsFirstShown (circuit task.first.now) (circuit task.second.now) (condition task.given) c.args.naming.now c.args.subject.now) c.in-Some.is c.requires.shown in
    (fact.0.1, fact.1)
