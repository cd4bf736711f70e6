use Rattle.std.proofs.Common.{◌≡◌, Option, Some, ap, refl, subst, sym}
use Rattle.std.specs.Prelude.{IfSome}
use Rattle.net_bench.specs.Circuit.{Circuit, circuit}
use Rattle.net_order.specs.Order.{condition}
use Rattle.compare_built.specs.Scatter.{IsOfNet}
use Rattle.pair_facts.proofs.shown.note_condition.Goals as goal

pub returns : goal.returns
returns c =
    let net = c.in-Some.net.now in
    let is : condition c.args.given ≡ Some (circuit net) = ap condition c.in-Some.is in
    subst (λ (o : Option Circuit). IfSome o IsOfNet) (sym is) (record { net = net; sound = c.outputs.ensures.sound; is_circuit = refl })
