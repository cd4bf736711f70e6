use Rattle.std.proofs.Common.{◌≡◌, rules, ◌<◌, true, [], length, get_or, ap, sym, subst, ◌∙◌}
use Rattle.std.specs.VecDeque.{deque_len}
use Rattle.req_table.specs.Lanes.{is_from, sent_by}
use Rattle.wave_core.proofs.Keeping.{some_from}
use Rattle.wave_core.proofs.queues.ItemQueue.has_from.Goals as goal

pub returns-then-is_from : goal.returns-then-is_from
returns-then-is_from c =
    let xs = c.self.inside.items.items in
    let long : deque_len c.self.inside.items ≡ length xs = search rules in
    let room : c.loop-place.place < length xs = subst (λ n. c.loop-place.place < n) (c.len-place-end.ensures ∙ long) c.loop-place-test.true in
    let hit : is_from c.args.sender (get_or xs c.loop-place.place c.index.result.now) ≡ true = ap (is_from c.args.sender) (sym c.index.ensures) ∙ sym c.is_from.ensures ∙ c.if-is_from.true in
    subst (λ ys. ¬ (sent_by c.args.sender ys ≡ [])) c.self.view_is (some_from c.args.sender xs c.loop-place.place c.index.result.now room hit)
