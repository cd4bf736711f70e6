use Rattle.std.proofs.Common.{◌≡◌, map, replicate, []}
use Rattle.expand_work.proofs.lists.PlacesBySender.new.Given as goal

abbrev pub invariant-loop-made : goal.invariant-loop-made
invariant-loop-made l = map (λ v. v.items) l.lists.items ≡ replicate l.made []
