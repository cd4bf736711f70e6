use Rattle.std.proofs.Common.{◌≡◌, None, drop}
use Rattle.std.specs.Prelude.{fold, slice_index_or}
use Rattle.group_order.specs.SmallFunctions.{with_pair_of, xor_pair}
use Rattle.group_order.proofs.small_functions.push_pairs_on.Given as goal

abbrev pub invariant-loop-gate : goal.invariant-loop-gate
invariant-loop-gate l =
    fold (λ ps g. with_pair_of ps (xor_pair (slice_index_or l.smalls g.out None))) l.pairs.items (drop l.gate-index l.gates) ≡
    fold (λ ps g. with_pair_of ps (xor_pair (slice_index_or l.smalls g.out None))) l.initial.pairs.items l.gates
