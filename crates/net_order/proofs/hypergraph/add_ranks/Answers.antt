use Rattle.std.proofs.Common.{◌≡◌, ◌∙◌, ◌++◌, ap, arith, map}
use Rattle.std.specs.Prelude.{slice_index}
use Rattle.std.proofs.lemmas.Grind.{common_steps}
use Rattle.net_order.proofs.Ranking.{gate_ranks_are}
use Rattle.net_order.proofs.hypergraph.add_ranks.Goals as goal

pub returns : goal.returns
returns c =
    let whole : c.loop-gate.ranks.items ≡ c.args.ranks.now.items ++ map (λ g. slice_index c.args.net.now.ranks g.out) c.args.net.now.gates = grind (arith, common_steps) in
    whole ∙ ap (λ rs. c.args.ranks.now.items ++ rs) (gate_ranks_are c.args.net.now c.gates-gates.ensures.sound)
