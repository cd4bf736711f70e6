use Rattle.std.proofs.Common.{ℕ, get_or, subst, arith}
use Rattle.dd_store.specs.declared.level.ShardState.{ShardState}
use Rattle.dd_store.specs.Levels.{IsNoted, all_at}
use Rattle.dd_store.proofs.makers.make_level.Goals as goal

pub returns : goal.returns
returns g c = λ s d lt.
    let Made : ℕ → ShardState → ShardState → Type 0 = λ i old new. IsNoted c.args.limit c.args.level i (all_at c.args.parts.now i) old new in
    subst (λ i. Made i (get_or c.args.shards.now s d) (get_or c.make_in_parallel.new.shards s d)) (omega arith) (c.make_in_parallel.ensures s d (omega (arith, lt, c.requires.shards)))
