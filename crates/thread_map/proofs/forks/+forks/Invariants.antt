use Rattle.std.proofs.Common.{length, ◌+◌, ◌*◌}
use Rattle.thread_map.proofs.forks.+forks.Given as goal

abbrev pub decreases-fork_from : goal.decreases-fork_from
decreases-fork_from g l = 3 * length l.s.now

abbrev pub decreases-fork_both : goal.decreases-fork_both
decreases-fork_both g l = 3 * length l.rest.now + 2

abbrev pub decreases-fork_both-back : goal.decreases-fork_both-back
decreases-fork_both-back g l = 3 * length l.rest.now + 1
