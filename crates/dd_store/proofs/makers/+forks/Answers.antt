use Rattle.std.proofs.Common.{ℕ, refl}
use Rattle.dd_store.specs.declared.level.ShardState.{ShardState}
use Rattle.dd_store.specs.Levels.{IsNoted, all_at}
use Rattle.thread_map.proofs.Apart.{of_both}
use Rattle.dd_store.proofs.makers.+forks.Goals as goal

pub make_in_parallel-returns : goal.make_in_parallel-returns
make_in_parallel-returns g t c =
    let cut = c.split_at_mut-own in let both = c.share_and_rest in let lists = c.args.lists.now in
    let Made : ℕ → ShardState → ShardState → Type 0 = λ s old new. IsNoted lists.limit lists.level s (all_at lists.parts.now s) old new in
    of_both Made c.args.first _ c.args.shards.now cut.result.0.now cut.result.1.now both.new.own both.new.rest
    cut.ensures.value refl both.auto.own both.ensures.own both.ensures.rest
