use Rattle.std.proofs.Common.{◌∙◌, sym, subst, length}
use Rattle.std.specs.Prelude.{slice_index}
use Rattle.net_bench.specs.Circuit.{circuit, variables_of}
use Rattle.net_names.specs.declared.order.Order.TheVariants.{Declared}
use Rattle.net_order.specs.Order.{condition}
use Rattle.net_order.proofs.InputLevels.{first_below, second_below}
use Rattle.compare_built.specs.Cones.{AreNamed}
use Rattle.cone_check.specs.ConeRounds.{texts}
use Rattle.cone_check.proofs.Called.{all_below, first_names, second_names}
use Rattle.cone_check.proofs.cone_comparison.judge_selected.Goals as goal

pub names_in-requires : goal.names_in-requires
names_in-requires g c =
    let task = c.args.task.now in
    let p = c.args.naming.now in
    all_below (variables_of (circuit task.first.now)) (slice_index p.first) (length p.names) (first_below task.settings.now.matching (circuit task.first.now) (circuit task.second.now) (condition task.given) Declared p c.requires.naming)

pub names_in-requires-2 : goal.names_in-requires-2
names_in-requires-2 g c =
    let task = c.args.task.now in
    let p = c.args.naming.now in
    all_below (variables_of (circuit task.second.now)) (slice_index p.second) (length p.names) (second_below task.settings.now.matching (circuit task.first.now) (circuit task.second.now) (condition task.given) Declared p c.requires.naming)

pub judged-requires-clause-ready : goal.judged-requires-clause-ready
judged-requires-clause-ready g c κs within =
    let task = c.args.task.now in
    let how = task.settings.now.matching in
    let p = c.args.naming.now in
    let first = subst (λ vs. AreNamed (circuit task.first.now) p.first p (texts vs)) (sym c.as_slice.ensures.value) c.in_ok-first.ensures in
    let second = subst (λ vs. AreNamed (circuit task.second.now) p.second p (texts vs)) (sym c.as_slice-2.ensures.value) c.in_ok-second.ensures in
    record {
      naming = c.requires.naming;
      first = first;
      first_apart = first_names how task.first.now task.second.now (condition task.given) Declared p c.requires.naming c.inputs.ensures.sound (texts c.as_slice.result.now) first;
      second = second;
      second_apart = second_names how task.first.now task.second.now (condition task.given) Declared p c.requires.naming c.inputs.ensures.sound c.inputs-2.ensures.sound (texts c.as_slice-2.result.now) second;
      first_gates = c.as_slice-3.ensures.value ∙ c.in_ok-first_gates.ensures;
      second_gates = c.as_slice-4.ensures.value ∙ c.in_ok-second_gates.ensures;
      conditional = c.in_ok-given.ensures.cone;
      conditional_net = c.in_ok-given.ensures.net;
      ordered = c.in_ok-order.ensures;
    }
