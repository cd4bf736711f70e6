use Rattle.std.proofs.Common.{rules, ◌≡◌, ◌≢◌, ◌∷◌, ◌++◌, [], refl, sym, ap, ◌∙◌, subst, set, arith}
use Rattle.dd_store.specs.Hashes.{shard_of_pair}
use Rattle.dd_store.specs.Levels.{list_at}
use Rattle.dd_store.proofs.LevelFacts.{list_read}
use Rattle.dd_store.proofs.Storing.{small_shard}
use Rattle.reduce_up.specs.Sharing.{IsListed}
use Rattle.reduce_up.proofs.Dividing.{listed}
use Rattle.reduce_up.proofs.division.PairsByShard.put.Goals as goal

pub returns-clause-put : goal.returns-clause-put
returns-clause-put c =
    let pair = c.args.pair in
    let old = c.args.self.now in
    let lists = old.lists.items in
    let shard : c.shard_of-shard.result ≡ shard_of_pair pair.0 pair.1 = c.shard_of-shard.ensures in
    let small = small_shard pair.0 pair.1 in
    let grown : c.push-3.new.self.items ≡ c.index_mut.result.now.items ++ pair ∷ [] = search rules in
    let numbers : c.push-2.new.self.items ≡ old.origins.numbers.items ++ c.shard_of-shard.result ∷ [] = search rules in
    let read : c.index_mut.result.now.items ≡ list_at lists c.shard_of-shard.result = list_read lists c.shard_of-shard.result c.index_mut.result.now (let n = c.requires in omega (arith, n, small, shard)) c.index_mut.ensures.value in
    let differ : pair.0 ≢ pair.1 = search rules in
    record {
      listed = subst (λ s. IsListed (list_at lists) pair (list_at (set lists s c.push-3.new.self))) (sym shard)
          (listed lists pair c.push-3.new.self c.requires differ (grown ∙ ap (λ z. z ++ pair ∷ []) (read ∙ ap (list_at lists) shard)));
      same = λ e. absurd (differ e);
      differ = λ _. (numbers ∙ ap (λ z. old.origins.numbers.items ++ z ∷ []) shard, refl);
    }
