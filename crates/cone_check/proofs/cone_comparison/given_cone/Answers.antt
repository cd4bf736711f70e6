use Rattle.std.proofs.Common.{◌≡◌, ◌∙◌, ℕ, List, Option, Some, ap, sym, subst, refl, arith, length, get_or}
use Rattle.std.specs.Prelude.{slice_index, IfSome}
use Rattle.net_bench.specs.Circuit.{Circuit, circuit, variables_of}
use Rattle.net_names.specs.declared.order.Order.TheVariants.{Declared}
use Rattle.net_order.specs.Order.{condition}
use Rattle.net_order.proofs.InputLevels.{given_below}
use Rattle.net_order.proofs.Named.{same_item}
use Rattle.net_cone.specs.Cones.{IsCone}
use Rattle.compare_built.specs.Conditions.{HasOneOutput, output_of}
use Rattle.compare_built.specs.Cones.{AreNamed, IsConditionCone}
use Rattle.cone_check.specs.ConeRounds.{texts}
use Rattle.compare_built.specs.Scatter.{IsOfNet}
use Rattle.cone_check.proofs.Called.{all_below, given_names}
use Rattle.cone_check.proofs.cone_comparison.given_cone.Goals as goal

pub names_in-requires : goal.names_in-requires
names_in-requires g c =
    let task = c.args.task.now in
    let p = c.args.naming.now in
    let net = c.in-Some.given.now in
    let is : condition task.given ≡ Some (circuit net) = ap condition c.in-Some.is in
    all_below (variables_of (circuit net)) (slice_index p.given) (length p.names) (given_below task.settings.now.matching (circuit task.first.now) (circuit task.second.now) (condition task.given) Declared p c.requires (circuit net) is)

pub cone_of-requires-clause-names : goal.cone_of-requires-clause-names
cone_of-requires-clause-names g c =
    let task = c.args.task.now in
    let net = c.in-Some.given.now in
    let is : condition task.given ≡ Some (circuit net) = ap condition c.in-Some.is in
    given_names task.settings.now.matching task.first.now task.second.now (condition task.given) Declared c.args.naming.now c.requires net is c.outputs.ensures.sound (texts c.as_slice.result.now)
    (subst (λ vs. AreNamed (circuit net) c.args.naming.now.given c.args.naming.now (texts vs)) (sym c.as_slice.ensures.value) c.in_ok-names.ensures)

pub returns-clause-cone : goal.returns-clause-cone
returns-clause-cone g c =
    let task = c.args.task.now in
    let net = c.in-Some.given.now in
    let p = c.args.naming.now in
    let is : condition task.given ≡ Some (circuit net) = ap condition c.in-Some.is in
    let one : length net.outputs ≡ 1 = subst (λ (o : Option Circuit). IfSome o HasOneOutput) is task.one_output in
    let root = c.index-outputs-0.result in
    let same : output_of (circuit net) ≡ root = same_item net.outputs 0 0 root (omega (arith, one)) ∙ ap (λ (xs : List ℕ). get_or xs 0 root) (sym c.outputs.ensures.value) ∙ sym c.index-outputs-0.is in
    subst (λ (o : Option Circuit). IsConditionCone o p (Some (circuit c.in_ok-cone.cone.net))) (sym is)
    (record {
      whole = net;
      part = c.in_ok-cone.cone.net;
      names = texts c.as_slice.result.now;
      from = c.in_ok-cone.cone.from.items;
      is_whole = refl;
      is_part = refl;
      named = subst (λ vs. AreNamed (circuit net) p.given p (texts vs)) (sym c.as_slice.ensures.value) c.in_ok-names.ensures;
      cone_of = subst (λ r. IsCone net r (texts c.as_slice.result.now) c.in_ok-cone.cone.net c.in_ok-cone.cone.from.items) (sym same) c.in_ok-cone.ensures;
    })

pub returns-clause-net : goal.returns-clause-net
returns-clause-net g c =
    let is : condition c.args.task.now.given ≡ Some (circuit c.in-Some.given.now) = ap condition c.in-Some.is in
    subst (λ (o : Option Circuit). IfSome o IsOfNet) (sym is) (record { net = c.in-Some.given.now; sound = c.outputs.ensures.sound; is_circuit = refl })
