use Rattle.std.proofs.Common.{◌≡◌, [], map}
use Rattle.std.specs.Prelude.{slice_index_or}
use Rattle.net_order.specs.Force.{numbers_below}
use Rattle.net_order.specs.Index.{trailing}
use Rattle.group_order.specs.NameKeys.{falling_key_of}
use Rattle.group_order.proofs.name_keys.falling_keys.Given as goal

abbrev pub invariant-loop-place : goal.invariant-loop-place
invariant-loop-place l = l.keys.items ≡ map (λ v. falling_key_of (trailing (slice_index_or l.names v []))) (numbers_below l.place)
