use Rattle.std.proofs.Common.{◌++◌, ◌∙◌, ◌∷◌, [], take, ap, sym, append_assoc, rules}
use Rattle.std.proofs.lemmas.List.{take_more}
use Rattle.std.proofs.lemmas.Option.{get_or_from_slice_get}
use Rattle.wave_engine.proofs.front.push_all.Goals as goal

pub loop-place-preserved : goal.loop-place-preserved
loop-place-preserved c =
    let keys = c.args.keys.now in
    let i = c.loop-place.place in
    let k = c.key_at.result in
    let before = c.reserve.new.self.items in
    let at = get_or_from_slice_get keys i k k c.key_at.ensures in
    c.in_ok-push.ensures.items
    ∙ ap (λ z. z ++ k ∷ []) c.loop-place.invariant
    ∙ append_assoc before (take i keys) (k ∷ [])
    ∙ ap (λ z. before ++ (take i keys ++ z ∷ [])) (sym at)
    ∙ ap (λ z. before ++ z) (sym (take_more keys i k (search rules)))
