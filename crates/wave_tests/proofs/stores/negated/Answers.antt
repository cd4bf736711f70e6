use Rattle.std.proofs.Common.{◌∙◌, ap, sym, subst}
use Rattle.dd_store.specs.declared.reference.Ref.{Ref}
use Rattle.dd_store.specs.Graph.{top}
use Rattle.dd_store.specs.View.{Has}
use Rattle.dd_store.proofs.View.{has-negate, top-negate}
use Rattle.wave_tests.proofs.stores.negated.Goals as goal

pub returns-clause-here : goal.returns-clause-here
returns-clause-here c =
    subst (λ (z : Ref). Has c.args.store.now z) (sym c.negate.ensures.value) (has-negate c.args.store.now c.args.reference c.requires)

pub returns-clause-top : goal.returns-clause-top
returns-clause-top c =
    ap (λ (z : Ref). top c.args.store.now.levels z) c.negate.ensures.value ∙ top-negate c.args.store.now c.args.reference
