use Rattle.std.proofs.Common.{◌<◌, arith, get_or, length, subst, sym}
use Rattle.net_bench.specs.Circuit.{circuit}
use Rattle.net_order.specs.Order.{condition}
use Rattle.pair_facts.specs.PairFacts.{IsFirstShown}
use Rattle.pattern_tests.proofs.Zips.{zip_at}
use Rattle.pattern_tests.proofs.facts.verdict_at.Goals as goal

pub shown_verdict-requires-clause-number : goal.shown_verdict-requires-clause-number
shown_verdict-requires-clause-number g c =
    let task = c.args.task.now in
    let P = IsFirstShown (circuit task.first.now) (circuit task.second.now) (condition task.given) c.args.naming.now in
    let before = c.if-place-len.false in
    let size = c.len.ensures in
    let lt : c.args.place < length c.args.facts.now.subjects.items = omega (arith, before, size) in
    let at = zip_at P c.args.facts.now.subjects.items c.args.facts.now.shown.items c.args.place c.index.result.now c.index-2.result.now c.requires.shown lt in
    let first = subst (λ s. P s (get_or c.args.facts.now.shown.items c.args.place c.index-2.result.now)) (sym c.index.ensures) at in
    let second = subst (P c.index.result.now) (sym c.index-2.ensures) first in
    let is = subst (P c.index.result.now) c.in-Some.is second in
    is.0.0

pub shown_verdict-requires-clause-shown : goal.shown_verdict-requires-clause-shown
shown_verdict-requires-clause-shown g c =
    let task = c.args.task.now in
    let P = IsFirstShown (circuit task.first.now) (circuit task.second.now) (condition task.given) c.args.naming.now in
    let before = c.if-place-len.false in
    let size = c.len.ensures in
    let lt : c.args.place < length c.args.facts.now.subjects.items = omega (arith, before, size) in
    let at = zip_at P c.args.facts.now.subjects.items c.args.facts.now.shown.items c.args.place c.index.result.now c.index-2.result.now c.requires.shown lt in
    let first = subst (λ s. P s (get_or c.args.facts.now.shown.items c.args.place c.index-2.result.now)) (sym c.index.ensures) at in
    let second = subst (P c.index.result.now) (sym c.index-2.ensures) first in
    let is = subst (P c.index.result.now) c.in-Some.is second in
    (is.0.1, is.1)
