use Rattle.std.proofs.Common.{map, subst, sym}
use Rattle.net_bench.specs.Assembly.{net_of_parts}
use Rattle.net_cone.specs.Cones.{IsCone}
use Rattle.net_cone.specs.Walk.{AreBelow}
use Rattle.net_cone.proofs.ConeParts.{cone_of_signal, net_of_cone}
use Rattle.net_cone.proofs.cone.cone_of.Goals as goal

pub netlist_of_parts-requires : goal.netlist_of_parts-requires
netlist_of_parts-requires c =
    net_of_cone c.args.net.now c.args.root (map (λ w. w.items) c.args.names.now) c.as_slice-seen.result.now c.in_ok-numbers.numbers (net_of_parts c.in_ok-parts.parts) record {
      sound = c.seen_below.ensures.sound;
      root_low = c.requires.in_bounds;
      named = c.requires.names;
      below = subst (AreBelow c.args.net.now c.args.root) (sym c.as_slice-seen.ensures.value) c.in_ok-below.ensures.below;
      numbered = c.in_ok-numbers.ensures.numbered;
      each = c.in_ok-numbers.ensures.one_per_signal;
      variables = c.in_ok-numbers.ensures.variables;
      from = c.in_ok-numbers.ensures.from;
      cone_parts = c.in_ok-parts.ensures;
    }

pub returns : goal.returns
returns c =
    subst (λ m. IsCone c.args.net.now c.args.root (map (λ w. w.items) c.args.names.now) m c.in_ok-numbers.numbers.from.items) (sym c.in_ok-netlist_of_parts.ensures)
    (cone_of_signal c.args.net.now c.args.root (map (λ w. w.items) c.args.names.now) c.as_slice-seen.result.now c.in_ok-numbers.numbers (net_of_parts c.in_ok-parts.parts) record {
      sound = c.seen_below.ensures.sound;
      root_low = c.requires.in_bounds;
      named = c.requires.names;
      below = subst (AreBelow c.args.net.now c.args.root) (sym c.as_slice-seen.ensures.value) c.in_ok-below.ensures.below;
      numbered = c.in_ok-numbers.ensures.numbered;
      each = c.in_ok-numbers.ensures.one_per_signal;
      variables = c.in_ok-numbers.ensures.variables;
      from = c.in_ok-numbers.ensures.from;
      cone_parts = c.in_ok-parts.ensures;
    })
