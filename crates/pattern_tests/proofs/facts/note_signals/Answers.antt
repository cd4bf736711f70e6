use Rattle.std.specs.Prelude.{None}
use Rattle.net_names.specs.declared.order.Match.TheVariants.{Name}
use Rattle.net_names.specs.declared.order.Order.TheVariants.{Declared}
use Rattle.compare_built.proofs.Subjects.{all_signals}
use Rattle.pattern_tests.proofs.facts.note_signals.Goals as goal

pub returns : goal.returns
returns g c =
    let task = c.args.task.now in
    all_signals Name task.first.now task.second.now None Declared c.args.naming.now c.inputs.ensures.sound c.inputs-2.ensures.sound c.requires
