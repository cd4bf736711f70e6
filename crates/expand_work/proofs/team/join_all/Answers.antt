use Rattle.std.proofs.Common.{rules, ◌++◌, [], ◌∷◌, length, refl, ap, ◌∙◌, arith, length-append}
use Rattle.expand_work.specs.Team.{IsPromised}
use Rattle.expand_work.proofs.Zips.{zip_grown, turned}
use Rattle.expand_work.proofs.team.join_all.Goals as goal

pub push_reserved-requires : goal.push_reserved-requires
push_reserved-requires g c =
    let i = c.loop-child.invariant in
    let n = ap (λ xs. length xs) i.0 in
    let m = ap (λ xs. length xs) c.in-Some.ensures.steps.0 in
    let s = length-append c.loop-child.yielded c.loop-child.child-iterator.rest.items in
    let r = c.requires.room in
    let k = i.1 in
    let j = i.2 in
    search rules

pub loop-child-preserved-in-Ok : goal.loop-child-preserved-in-Ok
loop-child-preserved-in-Ok g c =
    let i = c.loop-child.invariant in (
      turned c.loop-child.yielded c.loop-child.child-iterator.rest.items c.next.new.self.rest.items c.args.children.items c.in-Some.child c.in-Some.ensures.steps.0 i.0,
      c.push_reserved.ensures.capacity ∙ i.1,
      (let a = ap (λ xs. length xs) c.push_reserved.ensures.items in let b = length-append c.loop-child.parts.items (c.in-Ok.part ∷ []) in let d = length-append c.loop-child.yielded (c.in-Some.child ∷ []) in let e = i.2 in omega (arith, a, b, d, e)),
      λ h. zip_grown IsPromised c.loop-child.yielded (c.loop-child.yielded ++ c.in-Some.child ∷ []) c.loop-child.parts.items c.push_reserved.new.self.items c.in-Some.child c.in-Ok.part refl c.push_reserved.ensures.items (i.3 h) c.in-Ok.ensures,
    )
