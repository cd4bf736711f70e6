use Rattle.std.proofs.Common.{take, get_or}
use Rattle.reduce_up.specs.Division.{source}
use Rattle.reduce_up.proofs.Picked.{ArePicking}
use Rattle.reduce_up.proofs.picking.pick.Given as goal

abbrev pub invariant-loop-origin : goal.invariant-loop-origin
invariant-loop-origin l = ArePicking (take l.origin-index l.origins.numbers.items) (λ s. get_or l.starts s 0) (source l.refs l.origins) l.places.items l.answers
