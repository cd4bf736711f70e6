use Rattle.std.proofs.Common.{◌≡◌, ◌<◌, ℕ, [], get_or, length}
use Rattle.net_cone.proofs.same.are_same_names.Given as goal

abbrev pub invariant-loop-number : goal.invariant-loop-number
invariant-loop-number l = record {
  first : l.count ≡ length l.one.names;
  second : l.count ≡ length l.other.names;
  same : (k : ℕ) → k < l.number → get_or l.one.names k [] ≡ get_or l.other.names k [];
}
