use Rattle.check_report.proofs.Flags.{no_flags}
use Rattle.check_report.proofs.merging.first_round.Goals as goal

pub returns-then-are_all_shown : goal.returns-then-are_all_shown
returns-then-are_all_shown g c = no_flags c.args.task.now c.args.naming.now c.args.facts.now c.in_ok-equal.equal.items c.in_ok-equal.ensures.each c.in_ok-equal.ensures.none
