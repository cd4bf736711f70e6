use Rattle.cone_check.proofs.AtOnce.{equal_at_once}
use Rattle.cone_check.proofs.Filling.{zip_size}
use Rattle.net_bench.specs.Circuit.{circuit}
use Rattle.cone_check.specs.ConeRounds.{IsEqualIf}
use Rattle.cone_check.specs.KnownPairs.{AreEqualKnown, AreKept}
use Rattle.cone_check.proofs.Keeping.{equal_known_first, equal_known_kept}
use Rattle.rayon.proofs.ListFacts.{IfOk-then}
use Rattle.cone_check.proofs.at_once.known_at_once.Goals as goal

pub equal_verdicts-requires-clause-one_for_each : goal.equal_verdicts-requires-clause-one_for_each
equal_verdicts-requires-clause-one_for_each g c =
    let w = c.args.context.now in
    zip_size (IsEqualIf (circuit w.task.now.first.now) (circuit w.task.now.second.now) w.naming.now) c.args.subjects.now c.args.equal.now c.requires.equal

pub returns-in-Least-clause-at_once : goal.returns-in-Least-clause-at_once
returns-in-Least-clause-at_once g c = equal_at_once c.args.context.now c.requires.ready.conditional_net c.args.subjects.now c.args.equal.now c.in_ok-known.known.items c.requires.equal c.in_ok-known.ensures

pub with_shown-requires-clause-known : goal.with_shown-requires-clause-known
with_shown-requires-clause-known g c = equal_at_once c.args.context.now c.requires.ready.conditional_net c.args.subjects.now c.args.equal.now c.in_ok-known.known.items c.requires.equal c.in_ok-known.ensures

pub returns-in-Least-clause-equal : goal.returns-in-Least-clause-equal
returns-in-Least-clause-equal g c = equal_known_first (circuit c.args.context.now.task.now.first.now) c.args.subjects.now c.args.equal.now c.in_ok-known.known.items c.in_ok-known.ensures

pub returns-in-AnyOne-clause-equal : goal.returns-in-AnyOne-clause-equal
returns-in-AnyOne-clause-equal g c =
    let a = circuit c.args.context.now.task.now.first.now in
    let ss = c.args.subjects.now in
    let equal = c.args.equal.now in
    let known = c.in_ok-known.known.items in
    IfOk-then c.with_shown.result (λ v. AreKept known v.items) (λ v. AreEqualKnown a ss equal v.items) c.with_shown.ensures.kept
    (λ v kept. equal_known_kept a ss equal known v.items (equal_known_first a ss equal known c.in_ok-known.ensures) kept)
