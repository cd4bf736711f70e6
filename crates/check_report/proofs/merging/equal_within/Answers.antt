use Rattle.std.proofs.Common.{subst}
use Rattle.std.specs.Prelude.{IfOk}
use Rattle.std.specs.List.{AllZip}
use Rattle.net_bench.specs.Circuit.{circuit}
use Rattle.cone_check.specs.ConeRounds.{IsEqualIf}
use Rattle.check_report.proofs.merging.equal_within.Goals as goal

pub returns : goal.returns
returns g c =
    let task = c.args.task.now in
    subst (λ ss. IfOk c.equal_inside.result (λ v. AllZip (IsEqualIf (circuit task.first.now) (circuit task.second.now) c.args.naming.now) ss v.items)) c.subjects_in-subjects.ensures.value c.equal_inside.ensures.equal
