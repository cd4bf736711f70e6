use Rattle.std.proofs.Common.{rules, ap, ◌∙◌, subst, Ok, get_or}
use Rattle.std.proofs.lemmas.List.{get_or_default}
use Rattle.std.proofs.lemmas.Option.{slice_get-get_or}
use Rattle.dd_store.specs.Graph.{Pair}
use Rattle.dd_store.specs.Narrow.{pair_at}
use Rattle.dd_store.proofs.Narrowing.{widened_more}
use Rattle.slot_table.specs.Placing.{IsPlaced}
use Rattle.dd_store.proofs.pairs.widened.Goals as goal

pub references-requires : goal.references-requires
references-requires c =
    rw c.as_slice-words-items.ensures.all
    (c.requires.words c.loop-words.words-index _
    (slice_get-get_or c.args.table.now c.loop-words.words-index (0, 0) (search rules)))

pub loop-words-preserved : goal.loop-words-preserved
loop-words-preserved c =
    let ns = c.args.table.now in
    let i = c.loop-words.words-index in
    let wide = c.loop-words.wide in
    let admission = c.in_ok-find_or_add.field-0 in
    let item = c.references.ensures ∙ ap (λ z. pair_at (get_or z i (0, 0))) c.as_slice-words-items.ensures.all in
    let placed = subst (λ (z : Pair). IsPlaced 1 z wide (Ok admission) c.find_or_add.new.self) item c.in_ok-find_or_add.ensures in
    widened_more ns c.requires.words c.as_slice-words-items.ensures.once i (get_or ns i (0, 0)) wide
    c.find_or_add.new.self admission (search rules) (get_or_default ns i (0, 0) (get_or ns i (0, 0)) (search rules))
    c.loop-words.invariant placed
