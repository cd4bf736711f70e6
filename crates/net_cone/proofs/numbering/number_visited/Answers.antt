use Rattle.std.proofs.Common.{◌≢◌, ◌<◌, length, subst, sym}
use Rattle.std.specs.Prelude.{All}
use Rattle.net_cone.proofs.Numbered.{fresh_next}
use Rattle.net_cone.proofs.numbering.number_visited.Goals as goal

pub number-requires-then-seen-number-clause-fresh : goal.number-requires-then-seen-number-clause-fresh
number-requires-then-seen-number-clause-fresh c =
    let low : c.loop-place.place < length c.args.signals.now = c.loop-place-test.true in
    let s = c.index-signals-place.result in
    fresh_next c.args.seen.now c.args.signals.now c.loop-place.from.items c.args.from.now.items c.loop-place.place s c.requires.once low c.index-signals-place.is
    (subst (λ u. All (λ t. t ≢ u) c.args.from.now.items) (sym c.index-signals-place.is) (c.requires.fresh c.loop-place.place s low)) c.loop-place.invariant.added
