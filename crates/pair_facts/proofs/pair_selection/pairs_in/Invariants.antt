use Rattle.std.proofs.Common.{◌≡◌, ◌++◌, drop}
use Rattle.std.specs.Prelude.{zip}
use Rattle.compare_built.specs.PairSelection.{of_share}
use Rattle.pair_facts.proofs.pair_selection.pairs_in.Given as goal

-- what is still to be added completes the list
abbrev pub invariant-loop-place : goal.invariant-loop-place
invariant-loop-place l = l.pairs.items ++ of_share l.share (zip (drop l.place l.subjects) (drop l.place l.shares)) ≡ of_share l.share (zip l.subjects l.shares)
