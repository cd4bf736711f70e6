use Rattle.std.proofs.Common.{◌≡◌, ℕ, ◌<◌, [], length}
use Rattle.dd_store.specs.Levels.{list_at}
use Rattle.reduce_up.proofs.lists.clear_lists.Given as goal

abbrev pub invariant-loop-place : goal.invariant-loop-place
invariant-loop-place l = (length l.lists.items ≡ length l.fn.lists.items) × ((k : ℕ) → k < l.place → list_at l.lists.items k ≡ [])
