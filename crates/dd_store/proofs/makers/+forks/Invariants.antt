use Prim.Native.Nat.{◌+◌, ◌*◌}
use Rattle.dd_store.proofs.makers.+forks.Given as goal

abbrev pub decreases-make_in_parallel : goal.decreases-make_in_parallel
decreases-make_in_parallel g l = 4 * l.threads

abbrev pub decreases-share_and_rest : goal.decreases-share_and_rest
decreases-share_and_rest g l = 4 * l.threads + 3

abbrev pub decreases-share_and_rest-back : goal.decreases-share_and_rest-back
decreases-share_and_rest-back g l = 4 * l.threads + 1
