use Rattle.std.proofs.Common.{◌≡◌, ◌∙◌, ◌++◌, [], ◌∷◌, get_or, map, take, refl, sym, ap, arith}
use Rattle.std.proofs.Math.Seq.{map-set_same}
use Rattle.std.proofs.lemmas.List.{map_more, get_or-set_other}
use Rattle.dd_store.specs.declared.level.ShardState.{ShardState}
use Rattle.dd_store.proofs.level.take_found.Goals as goal

pub loop-place-preserved : goal.loop-place-preserved
loop-place-preserved c =
    let v = c.loop-place.invariant in
    let i = c.loop-place.place in
    let d : ShardState = c.index-shards-place.result in
    let lt = c.loop-place-test.true in
    let same : get_or c.loop-place.shards i d ≡ get_or c.args.shards.now i d = v.rest i d (omega arith) in
    let taken : c.replace-found.result ≡ (get_or c.args.shards.now i d).found = c.replace-found.ensures.value ∙ ap (λ (z : ShardState). z.found) same in
    record {
      found =
          c.push_reserved.ensures.items
          ∙ ap (λ z. z ++ c.replace-found.result ∷ []) v.found
          ∙ ap (λ z. map (λ (s : ShardState). s.found) (take i c.args.shards.now) ++ z ∷ []) taken
          ∙ sym (map_more (λ (s : ShardState). s.found) c.args.shards.now i d (let a = c.loop-place.auto.shards in omega arith));
      count = let a = v.count in let b = c.push_reserved.ensures.len in omega arith;
      room = c.push_reserved.ensures.capacity ∙ v.room;
      shards = map-set_same (λ (s : ShardState). s.nodes) c.loop-place.shards i _ d refl ∙ v.shards;
      rest = λ j e le. get_or-set_other c.loop-place.shards i j _ e (omega arith) ∙ v.rest j e (omega arith);
    }
