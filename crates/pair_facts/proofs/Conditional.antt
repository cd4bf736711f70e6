-- A condition that is the circuit of a netlist has a function, which says where it holds.
use Rattle.std.proofs.Common.{Bool, List, length, Option, Some, None, refl, subst}
use Rattle.std.specs.Prelude.{IfSome, slice_index}
use Rattle.gate_plan.proofs.Signals.{function, some_function}
use Rattle.net_bench.specs.Circuit.{Circuit}
use Rattle.net_bench.specs.Labels.{IsFunctionOf}
use Rattle.net_order.specs.Order.{NamingModel}
use Rattle.compare_built.specs.Conditions.{HoldsWhere, everywhere, output_of}
use Rattle.compare_built.specs.Scatter.{IsOfNet}

pub some_holds : (given : Option Circuit) (p : NamingModel) → IfSome given IsOfNet → (holds : List Bool → Bool) × HoldsWhere given p holds
some_holds None p is = (everywhere, refl)
some_holds (Some c) p is =
    let f = function is.net is.sound (slice_index p.given) (length p.names) (output_of c) in
    (f, subst (λ (d : Circuit). IsFunctionOf d (slice_index p.given) (length p.names) (output_of c) f) is.is_circuit (some_function is.net is.sound (slice_index p.given) (length p.names) (output_of c)))
