use Rattle.std.proofs.Common.{sym, subst, All}
use Rattle.net_bench.specs.Circuit.{circuit}
use Rattle.compare_built.specs.Comparing.{IsInside}
use Rattle.check_report.proofs.merging.subjects_in.Goals as goal

pub returns-clause-inside : goal.returns-clause-inside
returns-clause-inside g c =
    subst (All (IsInside (circuit c.args.task.now.first.now) (circuit c.args.task.now.second.now))) (sym c.as_slice.ensures.value) c.requires.inside
