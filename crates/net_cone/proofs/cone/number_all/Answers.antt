use Rattle.std.proofs.Common.{◌≡◌, ◌∙◌, ◌++◌, length, subst}
use Rattle.std.specs.Prelude.{filter}
use Rattle.net_cone.specs.Walk.{is_visited}
use Rattle.net_cone.proofs.Numbered.{outs_fresh, outs_inside, outs_once}
use Rattle.net_cone.proofs.cone.number_all.Goals as goal

pub number_visited-requires-2-clause-in_bounds : goal.number_visited-requires-2-clause-in_bounds
number_visited-requires-2-clause-in_bounds c =
    outs_inside c.args.net.now c.variables.ensures.sound c.args.outs.now c.requires.outs (length c.number_visited.new.to) (c.number_visited.auto.to ∙ c.requires.one_per_signal)

pub number_visited-requires-2-clause-once : goal.number_visited-requires-2-clause-once
number_visited-requires-2-clause-once c = outs_once c.args.net.now c.variables.ensures.sound c.args.outs.now c.requires.outs

pub number_visited-requires-2-clause-fresh : goal.number_visited-requires-2-clause-fresh
number_visited-requires-2-clause-fresh c =
    outs_fresh c.args.net.now c.variables.ensures.sound c.args.outs.now c.requires.outs c.args.seen.now c.args.from.now.items c.number_visited.new.from.items c.requires.none_numbered
    (subst (λ vs. c.number_visited.new.from.items ≡ c.args.from.now.items ++ filter (is_visited c.args.seen.now) vs) c.variables.ensures.value c.in_ok-number_visited.ensures.added)
