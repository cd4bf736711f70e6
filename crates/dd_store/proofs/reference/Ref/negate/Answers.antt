use Rattle.std.proofs.Common.{◌∙◌, ap}
use Rattle.dd_store.specs.Nodes.{den}
use Rattle.dd_store.proofs.Complements.{den-negate}
use Rattle.dd_store.proofs.reference.Ref.negate.Goals as goal

pub returns-clause-meaning : goal.returns-clause-meaning
returns-clause-meaning c S x = ap (λ r. den S r x) c.complement_if.ensures ∙ den-negate S c.args.self x
