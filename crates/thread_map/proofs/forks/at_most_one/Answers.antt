use Rattle.std.proofs.Common.{rules}
use Rattle.thread_map.proofs.Forking.{changes_only}
use Rattle.thread_map.proofs.forks.at_most_one.Goals as goal

pub returns-in-Some : goal.returns-in-Some
returns-in-Some g c =
    changes_only g.F.Fn c.args.f.now c.args.base c.args.s.now c.in-Some.it.now c.f.new.arg3 c.requires.short (search rules) (search rules)
    (search rules)
