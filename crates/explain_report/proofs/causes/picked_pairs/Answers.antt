use Rattle.std.proofs.lemmas.Result.{IfOk-weaker}
use Rattle.net_bench.specs.Circuit.{circuit}
use Rattle.compare_built.specs.Comparing.{IsInside}
use Rattle.pair_facts.proofs.Picked.{picked_inside}
use Rattle.explain_report.proofs.FirstDifferences.{all_picked}
use Rattle.explain_report.proofs.causes.picked_pairs.Goals as goal

pub returns-in-All-clause-picked : goal.returns-in-All-clause-picked
returns-in-All-clause-picked g c =
    let task = c.args.task.now in
    IfOk-weaker c.subjects_of.result _ _ (λ v same. all_picked (circuit task.first.now) (circuit task.second.now) c.args.naming.now task.settings.now v.items c.in-All.is same) c.subjects_of.ensures

pub returns-in-Ok-clause-inside : goal.returns-in-Ok-clause-inside
returns-in-Ok-clause-inside g c =
    let a = circuit c.args.task.now.first.now in
    let b = circuit c.args.task.now.second.now in
    picked_inside (IsInside a b) a b c.args.naming.now c.in-Ok.ensures.picked c.requires.compared
