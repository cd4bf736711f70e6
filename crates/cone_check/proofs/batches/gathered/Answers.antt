use Rattle.std.proofs.Common.{rules}
use Rattle.std.proofs.lemmas.List.Sorted.{IsNonDecreasingBy-from_sort_by_key}
use Rattle.cone_check.specs.declared.batches.PairJob.{PairJob}
use Rattle.cone_check.proofs.batches.gathered.Goals as goal

pub returns-clause-by_place : goal.returns-clause-by_place
returns-clause-by_place c = IsNonDecreasingBy-from_sort_by_key (λ (t : PairJob). t.place) _ c.in_ok-sort_by_key.ensures.sorted (λ a r q k. search rules)
