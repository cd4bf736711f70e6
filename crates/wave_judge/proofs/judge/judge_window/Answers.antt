use Rattle.cut_window.specs.WindowParts.{leaves_of}
use Rattle.cut_window.proofs.Over.{holds_from_over}
use Rattle.wave_judge.proofs.judge.judge_window.Goals as goal

pub build_above-built-requires-clause-built : goal.build_above-built-requires-clause-built
build_above-built-requires-clause-built g c κs within = c.in_ok-build_leaves.ensures.built c.args.graph.now

pub returns-clause-everywhere : goal.returns-clause-everywhere
returns-clause-everywhere g c =
    holds_from_over c.args.graph.now c.len-above.ensures.sound (leaves_of c.args.window.now) c.args.pair.0 c.args.pair.1 c.in_ok-finding.finding
    c.in_ok-finding.ensures
