use Rattle.std.proofs.Common.{All, List, ◌∷◌, [], subst, sym}
use Rattle.std.proofs.lemmas.List.Elements.{All-append}
use Rattle.req_table.specs.declared.Key.{Key}
use Rattle.req_table.specs.Keys.{IsKey}
use Rattle.lane_queue.proofs.Facts.{all-one}
use Rattle.wave_tests.proofs.expanded.copies.Goals as goal

pub loop-preserved : goal.loop-preserved
loop-preserved g c =
    subst (λ (z : List Key). All (IsKey c.args.store.now) z) (sym c.push.ensures.items)
    (rw c.expect.ensures (All-append (IsKey c.args.store.now) c.loop.keys.items (c.args.key ∷ []) c.loop.invariant (all-one (IsKey c.args.store.now) c.args.key c.requires)))
