use Rattle.wave_core.proofs.DueLists.{due_removed_both}
use Rattle.wave_core.proofs.machine.Machine.remove_due_children.Goals as goal

pub returns : goal.returns
returns c = λ d e. due_removed_both c.args.self.now c.remove_due.new.self c.remove_due-2.new.self c.args.by c.args.added.now d e c.remove_due.ensures.back c.remove_due-2.ensures.back
