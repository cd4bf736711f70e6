use Rattle.thread_map.proofs.Forking.{accepts_rest, changes_both}
use Rattle.thread_map.proofs.forks.+forks.Goals as goal

pub fork_from-fork_both-requires-clause-back : goal.fork_from-fork_both-requires-clause-back
fork_from-fork_both-requires-clause-back g t c κs within =
    let cut = c.split_at_mut-first in
    accepts_rest g.F.Fn c.args.f.now c.args.base 1 c.args.s.now cut.result.0.now cut.result.1.now cut.ensures.value
    cut.ensures.front_len c.requires

pub fork_from-returns : goal.fork_from-returns
fork_from-returns g t c =
    let cut = c.split_at_mut-first in
    changes_both g.F.Fn c.args.f.now c.args.base 1 c.args.s.now cut.result.0.now cut.result.1.now c.fork_both.new.first c.fork_both.new.rest
    cut.ensures.value cut.ensures.front_len c.fork_both.ensures.front c.fork_both.ensures.back
