use Rattle.std.proofs.Common.{◌∙◌, ◌<◌, subst, arith}
use Rattle.std.proofs.lemmas.List.{get_or_default}
use Rattle.net_bench.specs.Circuit.{circuit}
use Rattle.compare_built.specs.PairSelection.{HasPicked}
use Rattle.pair_facts.proofs.Picked.{no_pattern}
use Rattle.pair_facts.proofs.pair_selection.are_known.Goals as goal

pub returns-clause-known : goal.returns-clause-known
returns-clause-known c = λ e n (i, low, at).
    let below : i < c.loop-pattern.pattern-index = omega arith in
    subst (HasPicked (circuit c.args.net.now)) (get_or_default c.args.patterns.now i no_pattern n low ∙ at) (c.loop-pattern.invariant i below)
