use Rattle.std.proofs.Common.{rules}
use Rattle.dd_store.specs.Words.{is_near}
use Rattle.dd_store.proofs.words.is_near.Goals as goal

pub returns-then-id-lt-SHARDS : goal.returns-then-id-lt-SHARDS
unfolding is_near
returns-then-id-lt-SHARDS c = search rules

pub returns-else-id-lt-SHARDS : goal.returns-else-id-lt-SHARDS
unfolding is_near
returns-else-id-lt-SHARDS c = search rules
