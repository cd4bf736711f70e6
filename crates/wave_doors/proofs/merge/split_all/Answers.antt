use Rattle.std.proofs.Common.{◌++◌, ◌∙◌, ◌∷◌, [], take, ap, sym, rules}
use Rattle.std.proofs.lemmas.List.{map_more}
use Rattle.std.proofs.lemmas.Option.{get_or_from_slice_get}
use Rattle.req_table.specs.Keys.{record_of}
use Rattle.expand_work.specs.OwnerRows.{records_of}
use Rattle.wave_doors.proofs.merge.split_all.Goals as goal

pub loop-place-preserved : goal.loop-place-preserved
loop-place-preserved c =
    let s = c.args.store.now in
    let keys = c.args.keys.now in
    let i = c.loop-place.place in
    let k = c.key_at.result in
    let at = get_or_from_slice_get keys i k k c.key_at.ensures in
    c.in_ok-push.ensures.items
    ∙ ap (λ z. z ++ c.split-key.result ∷ []) c.loop-place.invariant
    ∙ ap (λ z. records_of s (take i keys) ++ z ∷ []) (c.split-key.ensures.value ∙ ap (record_of s) (sym at))
    ∙ sym (map_more (record_of s) keys i k (search rules))
