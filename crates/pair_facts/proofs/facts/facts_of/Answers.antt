use Rattle.std.proofs.Common.{All, List, subst, sym}
use Rattle.std.specs.List.{AllZip}
use Rattle.net_bench.specs.Circuit.{circuit}
use Rattle.net_order.specs.Order.{condition}
use Rattle.compare_built.specs.declared.subject.Subject.{Subject}
use Rattle.compare_built.specs.Comparing.{IsInside}
use Rattle.pair_facts.specs.PairFacts.{IsFirstShown}
use Rattle.pair_facts.proofs.Picked.{picked_inside}
use Rattle.pair_facts.proofs.Showing.{all_named}
use Rattle.pair_facts.proofs.facts.facts_of.Goals as goal

pub first_shown-requires : goal.first_shown-requires
first_shown-requires g c =
    let a = circuit c.args.task.now.first.now in
    let b = circuit c.args.task.now.second.now in
    subst (All (IsInside a b)) (sym c.as_slice.ensures.value) (picked_inside (IsInside a b) a b c.args.naming.now c.in_ok-subjects.ensures.picked c.requires.compared)

pub notify_shown-requires-clause-named : goal.notify_shown-requires-clause-named
notify_shown-requires-clause-named g c =
    let a = circuit c.args.task.now.first.now in
    let b = circuit c.args.task.now.second.now in
    λ κs out. all_named a b _ (subst (All (IsInside a b)) (sym c.as_slice-2.ensures.value) (picked_inside (IsInside a b) a b c.args.naming.now c.in_ok-subjects.ensures.picked c.requires.compared))

pub returns-clause-inside : goal.returns-clause-inside
returns-clause-inside g c =
    let a = circuit c.args.task.now.first.now in
    let b = circuit c.args.task.now.second.now in
    picked_inside (IsInside a b) a b c.args.naming.now c.in_ok-subjects.ensures.picked c.requires.compared

pub returns-clause-shown : goal.returns-clause-shown
returns-clause-shown g c =
    let task = c.args.task.now in
    subst (λ (ss : List Subject). AllZip (IsFirstShown (circuit task.first.now) (circuit task.second.now) (condition task.given) c.args.naming.now) ss c.in_ok-shown.shown.items)
    c.as_slice.ensures.value c.in_ok-shown.ensures
