use Rattle.std.proofs.Common.{◌≡◌, ℕ, ◌+◌, ◌<◌, length, arith}
use Rattle.reduce_up.specs.Division.{begin_of}
use Rattle.reduce_up.proofs.Joined.{own_list, begin_room, all_more}
use Rattle.reduce_up.proofs.picking.start_of.Goals as goal

pub overflow_add-start : goal.overflow_add-start
overflow_add-start c =
    let parts = c.args.parts.now in let k : ℕ = c.loop-before.before in let s : ℕ = c.args.shard in
    let kb : k < length parts = (let a = c.loop-before-test.true in let b = c.requires.part in omega (arith, a, b)) in
    let p = c.index-parts-before.result in
    let own = own_list parts k p kb c.requires.lists c.index-parts-before.is s c.requires.shard c.index.result.now c.index.ensures in
    let start = c.loop-before.invariant in
    let len = c.len-start.ensures in
    let room = begin_room parts k s p kb in
    let total = c.requires.total in
    let fits = c.ranges.total.fits in
    omega (arith, own, room, start, len, total, fits)

pub loop-before-preserved : goal.loop-before-preserved
loop-before-preserved c =
    let parts = c.args.parts.now in let k : ℕ = c.loop-before.before in let s : ℕ = c.args.shard in
    let kb : k < length parts = (let a = c.loop-before-test.true in let b = c.requires.part in omega (arith, a, b)) in
    let p = c.index-parts-before.result in
    let own = own_list parts k p kb c.requires.lists c.index-parts-before.is s c.requires.shard c.index.result.now c.index.ensures in
    let start = c.loop-before.invariant in
    let len = c.len-start.ensures in
    let more = all_more parts k s p kb in
    let e : c.loop-before.start + c.len-start.result ≡ begin_of parts (k + 1) s = omega (arith, own, start, len, more) in
    e
