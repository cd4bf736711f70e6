use Rattle.std.proofs.Common.{◌≡◌, ◌≢◌, ◌∷◌, ◌++◌, [], rules, sym, ap, ◌∙◌, subst, set, arith}
use Rattle.dd_store.specs.Hashes.{shard_of_pair}
use Rattle.dd_store.specs.Levels.{list_at}
use Rattle.dd_store.proofs.LevelFacts.{list_read}
use Rattle.dd_store.proofs.Storing.{small_shard}
use Rattle.reduce_up.specs.Sharing.{IsListed}
use Rattle.reduce_up.proofs.Dividing.{listed}
use Rattle.wave_doors.proofs.parallel.list_pair.Goals as goal

pub returns-in_ok-push-clause-listed : goal.returns-in_ok-push-clause-listed
returns-in_ok-push-clause-listed c =
    let pair = c.args.pair in
    let lists = c.args.lists.now.items in
    let shard : c.shard_of-shard.result ≡ shard_of_pair pair.0 pair.1 = c.shard_of-shard.ensures in
    let small = small_shard pair.0 pair.1 in
    let grown : c.push.new.self.items ≡ c.index_mut.result.now.items ++ pair ∷ [] = search rules in
    let read : c.index_mut.result.now.items ≡ list_at lists c.shard_of-shard.result = list_read lists c.shard_of-shard.result c.index_mut.result.now (let n = c.requires in omega arith) c.index_mut.ensures.value in
    let differ : pair.0 ≢ pair.1 = search rules in
    subst (λ s. IsListed (list_at lists) pair (list_at (set lists s c.push.new.self))) (sym shard)
    (listed lists pair c.push.new.self c.requires differ (grown ∙ ap (λ z. z ++ pair ∷ []) (read ∙ ap (list_at lists) shard)))
