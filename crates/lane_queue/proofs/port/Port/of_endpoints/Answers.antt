use Rattle.std.proofs.Common.{◌<◌, ◌^◌, List, map, sym, ap, subst, ◌∙◌, arith}
use Rattle.dd_store.specs.Nodes.{Nodes}
use Rattle.req_table.specs.declared.Item.{Item}
use Rattle.req_table.specs.Sizes.{sizes_of}
use Rattle.lane_queue.specs.declared.rule.Lane.{Lane}
use Rattle.lane_queue.specs.PortView.{AgreesWithOwnLane}
use Rattle.lane_queue.specs.Ports.{IsValidPort, view_of}
use Rattle.lane_queue.proofs.Making.{new-ok, new-view, new-kept}
use Rattle.lane_queue.proofs.port.Port.of_endpoints.Goals as goal

pub returns : goal.returns
returns c =
    let new = new-view c.args.workers c.args.number (sizes_of c.args.store.now) c.args.lanes.now.items c.args.endpoints.items c.requires.lengths c.requires.endpoints c.requires.number in
    ap (λ (y : Nodes × List Item × List Item). view_of c.args.number (sizes_of y.0) c.args.endpoints.items y.1 y.2) (λ j. (c.of-store.ensures j, c.new-own.ensures.0 j, c.new-own.ensures.1 j)) ∙ new

pub invariant_of-result : goal.invariant_of-result
invariant_of-result c =
    let few : c.args.store.now.levels < 2 ^ 16 = omega arith in (
      subst (λ (s : Nodes). IsValidPort c.args.number (sizes_of s) c.args.endpoints.items) (sym c.of-store.ensures) (new-ok c.args.workers c.args.number (sizes_of c.args.store.now) c.args.lanes.now.items c.args.endpoints.items c.requires.lengths c.requires.endpoints c.requires.number few),
      subst AgreesWithOwnLane (sym (returns c)) (new-kept c.args.number (sizes_of c.args.store.now) (map (λ (x : Lane). x.queue) c.args.lanes.now.items)),
    )
