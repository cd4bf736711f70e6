use Rattle.std.proofs.Common.{Bool, false, List, length, ap, subst, sym, ◌∙◌}
use Rattle.std.proofs.lemmas.List.{length-replicate}
use Rattle.std.specs.Prelude.{IfSome, IsTrue}
use Rattle.std.specs.List.{AllZip}
use Rattle.net_bench.specs.Circuit.{circuit}
use Rattle.compare_built.specs.Facts.{IsEqualInside}
use Rattle.compare_built.specs.declared.subject.Subject.{Subject}
use Rattle.inside_check.proofs.EqualPairs.{none_found, zip_length}
use Rattle.inside_check.proofs.inside.equal_inside.Goals as goal

pub returns-in-Some-clause-equal : goal.returns-in-Some-clause-equal
returns-in-Some-clause-equal g c =
    let P : Subject → Type 0 = IsEqualInside (circuit c.args.task.now.first.now) (circuit c.args.task.now.second.now) c.args.naming.now in
    subst (λ (bs : List Bool). AllZip (λ s b. IsTrue b → P s) c.args.subjects.now bs) (sym c.into_equal.ensures)
    (subst (λ o. IfSome o (λ m. AllZip (λ s b. IsTrue b → P s) c.args.subjects.now m.equal)) c.in-Some.is c.in_ok-round.ensures)

pub returns-in-Some-clause-each : goal.returns-in-Some-clause-each
returns-in-Some-clause-each g c =
    let P : Subject → Type 0 = IsEqualInside (circuit c.args.task.now.first.now) (circuit c.args.task.now.second.now) c.args.naming.now in
    ap length c.into_equal.ensures ∙ zip_length (λ (s : Subject) (b : Bool). IsTrue b → P s) c.args.subjects.now c.in-Some.found.equal
    (subst (λ o. IfSome o (λ m. AllZip (λ s b. IsTrue b → P s) c.args.subjects.now m.equal)) c.in-Some.is c.in_ok-round.ensures)

pub returns-in_ok-none-in-None-clause-equal : goal.returns-in_ok-none-in-None-clause-equal
returns-in_ok-none-in-None-clause-equal g c =
    let P : Subject → Type 0 = IsEqualInside (circuit c.args.task.now.first.now) (circuit c.args.task.now.second.now) c.args.naming.now in
    subst (λ (bs : List Bool). AllZip (λ s b. IsTrue b → P s) c.args.subjects.now bs) (sym c.in_ok-none-in-None.ensures) (none_found P c.args.subjects.now)

pub returns-in_ok-none-in-None-clause-each : goal.returns-in_ok-none-in-None-clause-each
returns-in_ok-none-in-None-clause-each g c = ap length c.in_ok-none-in-None.ensures ∙ length-replicate (length c.args.subjects.now) false
