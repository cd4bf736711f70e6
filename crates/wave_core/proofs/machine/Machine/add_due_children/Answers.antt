use Rattle.wave_core.proofs.DueLists.{due_removed_one}
use Rattle.wave_core.proofs.machine.Machine.add_due_children.Goals as goal

pub returns-in-Err-clause-err : goal.returns-in-Err-clause-err
returns-in-Err-clause-err c =
    due_removed_one c.args.self.now c.add_due.new.self c.add_due-2.new.self c.remove_due.new.self c.args.by c.args.added.now.low c.in_ok-add_due.ensures.ok c.in-Err.ensures.err c.remove_due.ensures.back
