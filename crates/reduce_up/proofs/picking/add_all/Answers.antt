use Rattle.std.proofs.Common.{◌≡◌, ◌+◌, ◌++◌, ◌∷◌, [], List, take, ◌∙◌, sym, ap, append_assoc}
use Rattle.std.proofs.lemmas.List.{take_more}
use Rattle.dd_store.specs.declared.reference.Ref.{Ref}
use Rattle.reduce_up.specs.AnswersByLevel.{joined}
use Rattle.reduce_up.proofs.Joined.{turn_more}
use Rattle.reduce_up.proofs.picking.add_all.Goals as goal

pub loop-part-preserved : goal.loop-part-preserved
loop-part-preserved c =
    let picked : List (List Ref) = c.args.picked.now in
    let i = c.loop-part.part-index in
    let part : List Ref = c.part-item.result in
    let next : joined (take (i + 1) picked) ≡ joined (take i picked) ++ part =
    ap joined (take_more picked i part c.loop-part-test.true ∙ ap (λ (z : List Ref). take i picked ++ z ∷ []) (sym c.part-item.is)) ∙ turn_more (take i picked) part in
    c.in_ok-append.ensures ∙ ap (λ z. z ++ part) c.loop-part.invariant ∙ append_assoc c.args.own.now (joined (take i picked)) part ∙ ap (λ z. c.args.own.now ++ z) (sym next)
