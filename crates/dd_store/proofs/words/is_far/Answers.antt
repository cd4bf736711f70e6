use Rattle.std.proofs.Common.{rules}
use Rattle.dd_store.specs.Words.{is_far}
use Rattle.dd_store.proofs.words.is_far.Goals as goal

pub returns-then-id-lt-SHARDS : goal.returns-then-id-lt-SHARDS
unfolding is_far
returns-then-id-lt-SHARDS c = search rules

pub returns-else-id-lt-SHARDS : goal.returns-else-id-lt-SHARDS
unfolding is_far
returns-else-id-lt-SHARDS c = search rules
