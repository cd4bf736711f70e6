use Rattle.std.proofs.Common.{sym, ap, subst, ◌∙◌}
use Rattle.lane_queue.specs.declared.endpoint.Endpoint.{Endpoint}
use Rattle.lane_queue.specs.declared.rule.Lane.{Lane}
use Rattle.lane_queue.specs.Endpoint.{endpoint_view, IsLiveOn}
use Rattle.lane_queue.specs.PortView.{AgreesWithOwnLane}
use Rattle.lane_queue.proofs.Settling.{all-live, view_at}
use Rattle.lane_queue.proofs.port.Port.pass_on.Goals as goal

pub pass-requires : goal.pass-requires
pass-requires c =
    let live = all-live c.self.inside.number _ c.self.inside.endpoints.items c.self.inside.own.sent c.self.inside.own.taken c.args.self.now c.args.workers c.args.lanes.now.items c.self.view_is c.self.invariant.0 c.requires.lengths c.requires.lanes c.args.owner c.index-2.result.now c.index.result.now c.requires.owner in
    subst (λ (y : Lane × Endpoint). IsLiveOn y.0.queue y.1.pass_state) (λ k. (sym c.index-2.ensures k, sym c.index.ensures k)) live

pub returns-clause-knows : goal.returns-clause-knows
returns-clause-knows c =
    c.pass.ensures.knows ∙ ap (λ (l : Endpoint). endpoint_view l) c.index.ensures
    ∙ view_at c.self.inside.number _ c.self.inside.endpoints.items c.self.inside.own.sent c.self.inside.own.taken c.args.self.now c.args.workers c.args.lanes.now.items c.self.view_is c.self.invariant.0 c.requires.lengths c.requires.lanes c.args.owner c.index.result.now c.requires.owner

pub returns-clause-kept : goal.returns-clause-kept
returns-clause-kept c = subst AgreesWithOwnLane c.self.view_is c.self.invariant.1
