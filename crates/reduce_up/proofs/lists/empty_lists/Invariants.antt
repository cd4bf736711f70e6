use Rattle.std.proofs.Common.{◌≡◌, ℕ, length}
use Rattle.dd_store.specs.Levels.{list_at}
use Rattle.reduce_up.proofs.lists.empty_lists.Given as goal

abbrev pub invariant-loop : goal.invariant-loop
invariant-loop l = record {
  many : length l.lists.items ≡ l.counter;
  empty : (s : ℕ) → length (list_at l.lists.items s) ≡ 0;
}
