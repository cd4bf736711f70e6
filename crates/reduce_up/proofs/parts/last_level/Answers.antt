use Rattle.std.proofs.Common.{◌≡◌, ◌<◌, ◌+◌, ◌∙◌, ap, sym, subst, arith, List, [], ◌∷◌, ◌++◌, length, take, Option, ℕ}
use Rattle.std.proofs.lemmas.List.{take_more, take_all}
use Rattle.req_table.specs.declared.packed_child.PackedChild.{PackedChild}
use Rattle.req_table.specs.Places.{IsLastLevel}
use Rattle.reduce_up.specs.OverParts.{over_parts, later_of}
use Rattle.reduce_up.proofs.OverParts.{last_more, last_none}
use Rattle.reduce_up.proofs.parts.last_level.Goals as goal

pub loop-part-init : goal.loop-part-init
loop-part-init c = λ n le. last_none n c.args.end le

pub loop-part-preserved : goal.loop-part-preserved
loop-part-preserved c = λ n le.
    let ps = c.args.parts.now in
    let i = c.loop-part.part-index in
    let p = c.part-item.result in
    let lt : i < length ps = (let t = c.loop-part-test.true in omega (arith, t)) in
    let more : take (i + 1) ps ≡ take i ps ++ p ∷ [] = take_more ps i p lt ∙ ap (λ (z : List (List (PackedChild × PackedChild))). take i ps ++ z ∷ []) (sym c.part-item.is) in
    subst (λ (z : Option ℕ). IsLastLevel (over_parts n (take (i + 1) ps)) c.args.end z) (sym c.later-last.ensures)
    (subst (λ (z : List (List (List (PackedChild × PackedChild)))). IsLastLevel (over_parts n z) c.args.end (later_of c.loop-part.last c.last_level.result)) (sym more) (last_more n c.args.end (take i ps) p le c.loop-part.last c.last_level.result (c.loop-part.invariant n le) c.last_level.ensures))

pub returns : goal.returns
returns c = λ n le.
    subst (λ (z : List (List (List (PackedChild × PackedChild)))). IsLastLevel (over_parts n z) c.args.end c.loop-part.last) (take_all c.loop-part.part-index c.args.parts.now (let t = c.loop-part-test.false in omega (arith, t))) (c.loop-part.invariant n le)
