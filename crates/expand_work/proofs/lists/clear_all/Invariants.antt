use Rattle.std.proofs.Common.{◌≡◌, ℕ, ◌<◌, [], length, get_or, map}
use Rattle.expand_work.proofs.lists.clear_all.Given as goal

abbrev pub invariant-loop-place : goal.invariant-loop-place
invariant-loop-place g l = (length l.lists.items ≡ length l.fn.lists.items) × ((k : ℕ) → k < l.place → get_or (map (λ v. v.items) l.lists.items) k [] ≡ [])
