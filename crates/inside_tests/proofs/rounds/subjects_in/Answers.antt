use Rattle.std.proofs.Common.{None, sym, subst, All}
use Rattle.net_bench.specs.Circuit.{circuit}
use Rattle.net_names.specs.declared.order.Match.TheVariants.{Name}
use Rattle.net_names.specs.declared.order.Order.TheVariants.{Declared}
use Rattle.compare_built.specs.Comparing.{IsInside}
use Rattle.compare_built.proofs.Subjects.{subjects_inside}
use Rattle.inside_tests.proofs.rounds.subjects_in.Goals as goal

pub returns : goal.returns
returns g c =
    let task = c.args.task.now in
    subst (All (IsInside (circuit task.first.now) (circuit task.second.now))) (sym c.in_ok-subjects.ensures)
    (subjects_inside Name task.first.now task.second.now None Declared c.args.naming.now c.inputs.ensures.sound c.inputs-2.ensures.sound c.requires)
