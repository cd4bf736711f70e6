use Rattle.std.proofs.Common.{rules, ◌++◌, [], ◌∷◌, length, refl, ap, arith, length-append}
use Rattle.expand_work.specs.Team.{WorksFor}
use Rattle.expand_work.proofs.Zips.{zip_grown, zip_long, turned}
use Rattle.expand_work.proofs.team.start_all.Goals as goal

pub push_reserved-requires : goal.push_reserved-requires
push_reserved-requires g c =
    let i = c.loop-port.invariant in
    let n = ap (λ xs. length xs) i.0 in
    let m = ap (λ xs. length xs) c.in-Some.ensures.steps.0 in
    let s = length-append c.loop-port.yielded c.loop-port.port-iterator.rest.items in
    let z = zip_long (WorksFor c.args.context.lanes.now c.args.context.store.now c.args.context.roots.now) c.loop-port.children.items c.loop-port.yielded i.2 in
    let k = i.1 in
    search rules

pub loop-port-preserved : goal.loop-port-preserved
loop-port-preserved g c =
    let i = c.loop-port.invariant in
    let R = WorksFor c.args.context.lanes.now c.args.context.store.now c.args.context.roots.now in (
      turned c.loop-port.yielded c.loop-port.port-iterator.rest.items c.next.new.self.rest.items c.args.ports.items c.in-Some.port c.in-Some.ensures.steps.0 i.0,
      (let a = c.push_reserved.ensures.capacity in let b = i.1 in omega (arith, a, b)),
      zip_grown R c.loop-port.children.items c.push_reserved.new.self.items c.loop-port.yielded (c.loop-port.yielded ++ c.in-Some.port ∷ []) c.in-Ok.child c.in-Some.port c.push_reserved.ensures.items refl i.2 c.in-Ok.ensures.works,
    )

pub returns : goal.returns
returns g c = record {
  first = c.loop-port.yielded;
  rest = c.loop-port.port-iterator.rest.items;
  all = c.loop-port.invariant.0;
  works = c.loop-port.invariant.2;
}
