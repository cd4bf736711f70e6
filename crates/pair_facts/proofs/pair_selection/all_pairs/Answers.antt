use Rattle.net_bench.specs.Circuit.{circuit}
use Rattle.compare_built.proofs.Picks.{picked_all}
use Rattle.pair_facts.proofs.pair_selection.all_pairs.Goals as goal

pub returns : goal.returns
returns g c =
    picked_all (circuit c.args.task.now.first.now) (circuit c.args.task.now.second.now) c.args.naming.now c.args.pairs.items c.args.pairs.items c.in_ok-unmatched_lines.unmatched_lines.items c.requires.all c.in_ok-unmatched_lines.ensures
