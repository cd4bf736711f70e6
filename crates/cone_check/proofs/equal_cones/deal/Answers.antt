use Rattle.std.proofs.Common.{inl, inr, subst, Result, Ok, Err}
use Rattle.std.specs.Prelude.{IfSome, OnOk}
use Rattle.net_bench.specs.Circuit.{circuit}
use Rattle.cone_check.specs.EqualCones.{IsAdded, IsDealt, IsShared, MayShare}
use Rattle.cone_check.proofs.equal_cones.deal.Goals as goal

-- a consequence of the outcome of a call that has succeeded
on_ok : {A E : Type 0} (r : Result A E) (P Q : Type 0) → OnOk r P → (P → Q) → OnOk r Q
on_ok (Ok v) P Q h f = f h
on_ok (Err e) P Q h f = tt

pub returns-in-Some : goal.returns-in-Some
returns-in-Some g c =
    let w = c.args.context.now in
    let old = c.args.distinct.now in
    let may = subst (λ o. IfSome o (MayShare w old c.args.subject.now c.args.known.now)) c.in-Some.is c.in_ok-found.ensures in
    on_ok c.share.result (IsShared c.in-Some.number old c.share.new.self) (IsDealt w c.args.subject.now c.args.known.now old c.share.new.self) c.share.ensures (λ shared. inr (c.in-Some.number, shared, may))

pub returns-in-None : goal.returns-in-None
returns-in-None g c =
    let w = c.args.context.now in
    let old = c.args.distinct.now in
    on_ok c.add_own.result (IsAdded (circuit w.task.now.first.now) c.args.subject.now c.args.known.now old c.add_own.new.distinct)
    (IsDealt w c.args.subject.now c.args.known.now old c.add_own.new.distinct) c.add_own.ensures (λ added. inl added)
