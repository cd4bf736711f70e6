use Rattle.std.proofs.Common.{◌≡◌, ◌∙◌, ◌<◌, All, ap, arith, length, rules, subst, sym}
use Rattle.std.specs.Prelude.{filter}
use Rattle.std.proofs.lemmas.List.Sorted.{All-permutation}
use Rattle.std.proofs.lemmas.Result.{err_from_is_err_and}
use Rattle.net_order.specs.Force.{numbers_below}
use Rattle.cone_check.specs.Batches.{AreJobsDone, is_left}
use Rattle.pair_facts.proofs.SerpentineOrder.{numbers_inside}
use Rattle.cone_check.proofs.Written.{fault_of, left_low, low_places, round_none, round_of, round_stopped}
use Rattle.cone_check.proofs.rounds.judge_round.Goals as goal

pub returns-then-has_stopped-clause-round : goal.returns-then-has_stopped-clause-round
returns-then-has_stopped-clause-round g c =
    round_stopped c.args.context.now c.args.budget (g.G.Monitor.bound c.args.monitor.now) c.args.subjects.now c.args.known.items (c.has_stopped.ensures.stops c.if-has_stopped.true)

pub left_in-requires : goal.left_in-requires
left_in-requires g c =
    let n = length c.args.subjects.now in
    subst (λ k. All (λ p. p < k) c.args.order.now) (sym (ap length c.as_slice.ensures.value ∙ c.requires.one_for_each))
    (All-permutation (λ p. p < n) (numbers_below n) c.args.order.now c.requires.order (numbers_inside n))

pub returns-then-count-eq0-clause-round : goal.returns-then-count-eq0-clause-round
returns-then-count-eq0-clause-round g c =
    let order = c.args.order.now in
    let count : c.len-count.result ≡ length c.in_ok-left.left.items = search rules in
    let left = ap length (c.in_ok-left.ensures ∙ ap (λ ks. filter (is_left ks) order) c.as_slice.ensures.value) in
    let none : length (filter (is_left c.args.known.items) order) ≡ 0 = omega (arith, count, left) in
    round_none c.args.context.now c.args.budget (g.G.Monitor.bound c.args.monitor.now) c.args.subjects.now c.args.known.items order c.requires.one_for_each c.requires.order none

pub judge_at-requires-clause-places : goal.judge_at-requires-clause-places
judge_at-requires-clause-places g c κs within =
    let n = length c.args.subjects.now in
    subst (All (λ p. p < n)) (sym (c.as_slice-2.ensures.value ∙ c.in_ok-left.ensures)) (left_low c.as_slice.result.now c.args.order.now n c.requires.order)

pub written-requires : goal.written-requires
written-requires g c =
    let w = c.args.context.now in
    let bound = g.G.Monitor.bound c.args.monitor.now in
    let order = c.args.order.now in
    let done = subst (λ ps. AreJobsDone w c.args.budget bound c.args.subjects.now ps c.in_ok-jobs.jobs.items)
    (c.as_slice-2.ensures.value ∙ c.in_ok-left.ensures ∙ ap (λ ks. filter (is_left ks) order) c.as_slice.ensures.value) c.in_ok-jobs.ensures in
    low_places w c.args.budget bound c.args.subjects.now c.args.known.items order c.in_ok-jobs.jobs.items c.requires.one_for_each c.requires.order done

pub returns-in_err-all-clause-ends : goal.returns-in_err-all-clause-ends
returns-in_err-all-clause-ends g c =
    let w = c.args.context.now in
    let bound = g.G.Monitor.bound c.args.monitor.now in
    let order = c.args.order.now in
    let done = subst (λ ps. AreJobsDone w c.args.budget bound c.args.subjects.now ps c.in_ok-jobs.jobs.items)
    (c.as_slice-2.ensures.value ∙ c.in_ok-left.ensures ∙ ap (λ ks. filter (is_left ks) order) c.as_slice.ensures.value) c.in_ok-jobs.ensures in
    let e = err_from_is_err_and c.from_residual-in_err-all.result c.from_residual-in_err-all.ensures.1 in
    rw (e.1, e.2) (fault_of w c.args.budget bound c.args.subjects.now c.args.known.items order c.in_ok-jobs.jobs.items c.requires.one_for_each c.requires.order done c.in_err-all.field-0.0 c.in_err-all.ensures.err)

pub returns-clause-round : goal.returns-clause-round
returns-clause-round g c =
    let w = c.args.context.now in
    let bound = g.G.Monitor.bound c.args.monitor.now in
    let order = c.args.order.now in
    let done = subst (λ ps. AreJobsDone w c.args.budget bound c.args.subjects.now ps c.in_ok-jobs.jobs.items)
    (c.as_slice-2.ensures.value ∙ c.in_ok-left.ensures ∙ ap (λ ks. filter (is_left ks) order) c.as_slice.ensures.value) c.in_ok-jobs.ensures in
    round_of w c.args.budget bound c.args.subjects.now c.args.known.items order c.in_ok-jobs.jobs.items c.requires.one_for_each c.requires.order done c.in_ok-all.all.items c.in_ok-all.ensures.ok
