use Rattle.std.proofs.Common.{refl}
use Rattle.counter_walk.specs.DeclaredOrder.{IsLeastDifferenceDeclared, by_declared}
use Rattle.dd_store.specs.Functions.{Agree}
use Rattle.dd_store.specs.Nodes.{den}
use Rattle.compare_built.specs.Report.IsVerdictOf.{where_equal, where_different}
use Rattle.compare_built.proofs.Rearranging.{agree_arranged}
use Rattle.compare_built.proofs.Restricting.{least_everywhere}
use Rattle.compare_built.proofs.verdicts.arranged_verdict.Goals as goal

pub returns-in-None : goal.returns-in-None
returns-in-None c =
    let S = c.args.store.now in
    let agree : Agree S.levels (den S c.args.of.now.first) (den S c.args.of.now.second) =
    rw c.in-None.is at c.in_ok-least_difference_declared.ensures.least in
    rw c.in_ok-name.ensures
    (where_equal
    (λ x len h. agree_arranged S.levels c.args.order.now c.requires.order.each_level (den S c.args.of.now.first) (den S c.args.of.now.second) agree x len)
    refl)

pub returns-in_ok-levels-in-Some : goal.returns-in_ok-levels-in-Some
returns-in_ok-levels-in-Some c =
    let S = c.args.store.now in
    let order = c.args.order.now in
    let least : IsLeastDifferenceDeclared S.levels order (den S c.args.of.now.first) (den S c.args.of.now.second) c.in-Some.bits.items =
    rw c.in-Some.is at c.in_ok-least_difference_declared.ensures.least in
    let where_least =
    least_everywhere S.levels (by_declared order (den S c.args.of.now.first)) (by_declared order (den S c.args.of.now.second)) c.in-Some.bits.items least in
    rw (
      c.in_ok-name.ensures,
      c.of.ensures,
      c.value-first.ensures.value,
      c.value-second.ensures.value,
      c.as_slice-in-Some.ensures.value,
      c.as_slice-in-Some-2.ensures.value,
      c.in_ok-levels-in-Some.ensures,
      c.as_slice.ensures.value,
    ) (where_different where_least c.in_ok-extras-in-Some.ensures)
