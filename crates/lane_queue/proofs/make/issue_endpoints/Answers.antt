use Rattle.std.proofs.Common.{refl, arith}
use Rattle.lane_queue.proofs.Making.{issued-start, issued-step, issued-all}
use Rattle.lane_queue.proofs.make.issue_endpoints.Goals as goal

pub loop-owner-init : goal.loop-owner-init
loop-owner-init c = issued-start _ _ _ _ _ c.new-endpoints.result.items c.new-endpoints.ensures.items c.requires.roots

pub loop-owner-preserved : goal.loop-owner-preserved
loop-owner-preserved c =
    issued-step _ _ _ c.loop-owner.owner _ c.loop-owner.roots.items c.loop-owner.endpoints.items c.push.new.self.items c.index.result.now c.index_mut.result.now _ _ c.loop-owner.invariant (omega arith) c.index.ensures c.index_mut.ensures.value
    c.issue_for-pass.ensures.queue.0 c.issue_for-pass.ensures.root c.issue_for-pass.ensures.queue.1 c.issue_for-pass.ensures.port refl refl c.in_ok-push.ensures.items

pub returns-clause-roots : goal.returns-clause-roots
returns-clause-roots c = (issued-all _ _ _ c.loop-owner.owner c.args.lanes.now.items c.loop-owner.roots.items c.loop-owner.endpoints.items c.loop-owner.invariant (omega arith)).0

pub returns-clause-endpoints : goal.returns-clause-endpoints
returns-clause-endpoints c = (issued-all _ _ _ c.loop-owner.owner c.args.lanes.now.items c.loop-owner.roots.items c.loop-owner.endpoints.items c.loop-owner.invariant (omega arith)).1
