use Rattle.std.proofs.Common.{◌≡◌, ◌∙◌, ◌<◌, ◌+◌, ◌++◌, ◌∷◌, [], ap, length, subst, sym, take}
use Rattle.std.specs.List.{AllZip}
use Rattle.std.proofs.lemmas.List.{take_more}
use Rattle.net_bench.specs.Circuit.{circuit}
use Rattle.net_cone.specs.Cones.{HasGates}
use Rattle.net_cone.proofs.Unvisiting.{zip_push}
use Rattle.net_cone.proofs.counting.counts_below.Goals as goal

pub loop-place-preserved : goal.loop-place-preserved
loop-place-preserved c =
    let R = HasGates (circuit c.args.net.now) in
    let low : c.loop-place.place < length c.args.roots.now = c.loop-place-test.true in
    let more : take (c.loop-place.place + 1) c.args.roots.now ≡ take c.loop-place.place c.args.roots.now ++ c.index-roots-place.result ∷ [] =
    take_more c.args.roots.now c.loop-place.place c.index-roots-place.result low ∙ ap (λ x. take c.loop-place.place c.args.roots.now ++ x ∷ []) (sym c.index-roots-place.is) in
    record {
      none = c.in_ok-count_below.ensures.none_visited;
      counted = subst (λ xs. AllZip R xs c.push.new.self.items) (sym more)
          (subst (AllZip R (take c.loop-place.place c.args.roots.now ++ c.index-roots-place.result ∷ [])) (sym c.in_ok-push.ensures.items)
          (zip_push R (take c.loop-place.place c.args.roots.now) c.loop-place.counts.items c.index-roots-place.result c.in_ok-count_below.field-0 c.loop-place.invariant.counted c.in_ok-count_below.ensures.gates));
    }
