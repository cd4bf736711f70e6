use Rattle.std.proofs.Common.{◌≡◌, ◌∙◌, ◌++◌, ◌∷◌, [], ap, sym, subst, List, Option}
use Rattle.net_bench.specs.Circuit.{Circuit, circuit}
use Rattle.net_order.specs.Order.{condition}
use Rattle.gate_plan.specs.Building.{PlannedNet, ArePlannedNets}
use Rattle.gate_plan.proofs.Pairs.{placed_two, placed_three}
use Rattle.gate_plan.proofs.sides.sides_of.Goals as goal
use Rattle.gate_plan.proofs.sides.sides_of.Goals.{in-Some+in_ok-add_side-3, in_default}

pub returns : goal.returns
returns c =
    let a = c.args.circuits.now.first.now in
    let b = c.args.circuits.now.second.now in
    let p = c.args.circuits.now.pairing.now in
    let first = c.in_ok-add_side.ensures in
    let second = c.in_ok-add_side-2.ensures in
    let list : c.add_side-2.new.sides.items ≡ first.one ∷ second.one ∷ [] = second.added ∙ ap (λ (z : List PlannedNet). z ++ second.one ∷ []) (first.added ∙ ap (λ (z : List PlannedNet). z ++ first.one ∷ []) c.new-sides.ensures.items) in
    elim c.match-circuits.branch [
      | in_default w ↦
          subst (λ (o : Option Circuit). ArePlannedNets (circuit a) (circuit b) o p c.match-circuits.sides.items) (sym (ap condition w.in_default.is))
          (placed_two a b p first.one second.one first.is second.is first.plan second.plan c.match-circuits.sides.items (ap (λ v. v.items) w.sides-is ∙ list))
      | in-Some+in_ok-add_side-3 w ↦
          let third = w.in_ok-add_side-3.ensures in
          subst (λ (o : Option Circuit). ArePlannedNets (circuit a) (circuit b) o p c.match-circuits.sides.items) (sym (ap condition w.in-Some.is))
          (placed_three a b p first.one second.one first.is second.is first.plan second.plan w.in-Some.given.now third.one third.is third.plan
          c.match-circuits.sides.items (ap (λ v. v.items) w.sides-is ∙ third.added ∙ ap (λ (z : List PlannedNet). z ++ third.one ∷ []) list))
    ]
