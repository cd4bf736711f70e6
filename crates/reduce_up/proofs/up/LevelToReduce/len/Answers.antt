use Rattle.std.proofs.Common.{◌≡◌, ◌<◌, ◌+◌, ◌∙◌, ap, arith, length, take}
use Rattle.std.proofs.lemmas.List.{length-append}
use Rattle.req_table.specs.Places.{row}
use Rattle.reduce_up.specs.OverParts.{level_over}
use Rattle.reduce_up.proofs.OverParts.{over_more}
use Rattle.reduce_up.proofs.up.LevelToReduce.len.Goals as goal

pub loop-part-preserved : goal.loop-part-preserved
loop-part-preserved c =
    let ps = c.args.self.now.parts.now in
    let v = c.args.self.now.number in
    let i = c.loop-part.part-index in
    let p = c.part-item.result in
    let lt : i < length ps = (let t = c.loop-part-test.true in omega (arith, t)) in
    let more : length (level_over (take (i + 1) ps) v) ≡ length (level_over (take i ps) v) + length (row p v) = ap length (over_more ps i p v lt c.part-item.is) ∙ length-append (level_over (take i ps) v) (row p v) in
    let own : c.len.result ≡ length (row p v) = c.len.ensures ∙ ap length c.row.ensures in
    let before = c.loop-part.invariant in
    omega (arith, more, own, before)
