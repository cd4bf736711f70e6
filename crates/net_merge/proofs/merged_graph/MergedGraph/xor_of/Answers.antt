use Rattle.std.proofs.Common.{Bool, List, sym, ap, subst, ◌∙◌}
use Rattle.pair_graph.specs.declared.node.Node.{Node}
use Rattle.pair_graph.specs.Graphs.{HasNode, exclusive_or, value}
use Rattle.net_merge.proofs.merged_graph.MergedGraph.xor_of.Goals as goal

pub add_xor-requires-clause-first : goal.add_xor-requires-clause-first
add_xor-requires-clause-first g c κs within =
    subst (λ (h : List Node). HasNode h c.in_ok-one.one) (sym (c.in_ok-two.ensures.unchanged ∙ c.in_ok-one.ensures.unchanged))
    (c.in_ok-one.ensures.settled.1 c.requires.first)

pub add_xor-requires-clause-second : goal.add_xor-requires-clause-second
add_xor-requires-clause-second g c κs within =
    subst (λ (h : List Node). HasNode h c.in_ok-two.two) (sym c.in_ok-two.ensures.unchanged)
    (c.in_ok-two.ensures.settled.1
    (subst (λ (h : List Node). HasNode h c.args.second) (sym c.in_ok-one.ensures.unchanged) c.requires.second))

pub returns-clause-value : goal.returns-clause-value
returns-clause-value g c = λ (x : List Bool).
    let first_is = c.in_ok-one.ensures.unchanged in
    let second_is = c.in_ok-two.ensures.unchanged in
    let p = ap (λ (h : List Node). value h x c.in_ok-one.one) (second_is ∙ first_is) ∙ sym (c.in_ok-one.ensures.settled.0 x) in
    let q = ap (λ (h : List Node). value h x c.in_ok-two.two) second_is ∙ sym (c.in_ok-two.ensures.settled.0 x) ∙
    ap (λ (h : List Node). value h x c.args.second) first_is in
    c.in_ok-literal.ensures.value x ∙ (λ i. exclusive_or (p i) (q i))
