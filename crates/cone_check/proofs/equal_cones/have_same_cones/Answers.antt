use Rattle.std.proofs.Common.{subst, sym}
use Rattle.net_bench.specs.Circuit.{Circuit, circuit}
use Rattle.net_order.specs.Order.{condition}
use Rattle.compare_built.specs.Cones.{AreCones}
use Rattle.cone_check.specs.ConeRounds.{circuit_in}
use Rattle.cone_check.proofs.equal_cones.have_same_cones.Goals as goal

pub returns : goal.returns
returns g c = λ same.
    let w = c.args.context.now in
    let task = w.task.now in
    let cones = c.in_ok-cones.cones in
    let others = c.in_ok-others.others in
    record {
      first = circuit cones.first.net;
      second = circuit cones.second.net;
      of_one = c.in_ok-cones.ensures;
      of_other = subst (λ (d : Circuit). AreCones (circuit task.first.now) (circuit task.second.now) (condition task.given) w.naming.now c.args.other.now d (circuit cones.second.net) (circuit_in w.given.now)) (sym (c.are_same.ensures.first same))
          (subst (λ (d : Circuit). AreCones (circuit task.first.now) (circuit task.second.now) (condition task.given) w.naming.now c.args.other.now (circuit others.first.net) d (circuit_in w.given.now)) (sym (c.are_same.ensures.second same)) c.in_ok-others.ensures);
    }
