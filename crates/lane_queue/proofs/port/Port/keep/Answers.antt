use Rattle.std.proofs.Common.{◌≡◌, List, ap, sym, subst, ◌∙◌}
use Rattle.req_table.specs.declared.Item.{Item}
use Rattle.req_table.specs.declared.Item.TheVariants.{Ask}
use Rattle.req_table.specs.Sizes.{sizes_of}
use Rattle.lane_queue.specs.PortView.{PortView, AgreesWithOwnLane, has_kept}
use Rattle.lane_queue.specs.Ports.{view_of}
use Rattle.lane_queue.proofs.Keeping.{kept-keep}
use Rattle.lane_queue.proofs.Endpoints.{keep-open, view-within}
use Rattle.lane_queue.proofs.port.Port.keep.Goals as goal

pub returns-clause-kept : goal.returns-clause-kept
returns-clause-kept c =
    let x : c.of.result.value ≡ Ask c.args.self.now.number c.args.level c.args.key = c.of.ensures ∙ ap (λ (u : PortView). Ask u.number c.args.level c.args.key) c.self.view_is in
    ap (λ (y : List Item × List Item). view_of c.self.inside.number (sizes_of c.self.inside.store.value) c.self.inside.endpoints.items y.0 y.1) (λ j. (c.kept.ensures.0 j, c.kept.ensures.1 j))
    ∙ (λ j. has_kept (c.self.view_is j) (x j))

pub invariant_of-self : goal.invariant_of-self
invariant_of-self c = (c.self.invariant.0, subst AgreesWithOwnLane (sym (returns-clause-kept c)) (kept-keep c.args.self.now (subst AgreesWithOwnLane c.self.view_is c.self.invariant.1) c.args.level c.args.key c.requires.may_follow c.requires.taken))

pub returns-clause-open : goal.returns-clause-open
returns-clause-open c = keep-open c.args.self.now (subst AgreesWithOwnLane c.self.view_is c.self.invariant.1) (view-within _ _ _ _ _ c.args.self.now c.self.view_is c.self.invariant.0) c.args.level c.args.key c.requires.may_follow c.requires.taken
