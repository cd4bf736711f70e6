use Rattle.net_names.specs.declared.order.Order.TheVariants.{Declared}
use Rattle.net_order.specs.Order.{condition}
use Rattle.compare_built.proofs.Subjects.{all_signals}
use Rattle.check_report.proofs.pairs.note_signals.Goals as goal

pub returns : goal.returns
returns g c =
    let task = c.args.task.now in
    all_signals task.settings.now.matching task.first.now task.second.now (condition task.given) Declared c.args.naming.now c.inputs.ensures.sound c.inputs-2.ensures.sound c.requires
