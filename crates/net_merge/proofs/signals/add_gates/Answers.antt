use Rattle.std.proofs.Common.{◌≤◌, ℕ, ◌+◌, Bool, List, length, map, sym, ap, subst, ◌∙◌, arith}
use Rattle.std.proofs.lemmas.Option.{get_or_from_slice_get}
use Rattle.std.specs.Prelude.{slice_index}
use Rattle.net_bench.specs.Circuit.{circuit}
use Rattle.net_bench.specs.Labels.{value_of}
use Rattle.net_simulate.specs.Schedules.{Equation}
use Rattle.pair_graph.specs.Literals.{Parts}
use Rattle.pair_graph.specs.Graphs.{value}
use Rattle.net_merge.specs.SignalLiterals.{AreGatesDone, literal_at}
use Rattle.net_merge.proofs.Stepping.{all_gates, gate_step}
use Rattle.net_merge.proofs.signals.add_gates.Goals as goal

pub loop-place-preserved : goal.loop-place-preserved
loop-place-preserved g c =
    let n = c.args.netlist.now.net.now in
    let level = slice_index c.args.netlist.now.levels.now in
    let old = c.loop-place.graph in
    let h = c.scheduled_literal.new.graph in
    let es = c.args.schedule.now in
    let place = c.loop-place.place in
    let ls = c.loop-place.literals in
    let e : Equation = record { out = c.gate.result.out; kind = c.gate.result.kind; operands = c.gate.result.operands.now } in
    let made = λ (x : List Bool). c.in_ok-literal.ensures.value e x ∙
    ap (λ (a : Equation). value_of a.kind (map (λ (s : ℕ). value old x (literal_at ls s)) a.operands)) (get_or_from_slice_get es place e e c.gate.ensures) in
    record {
      done = subst (λ (ms : List Parts). AreGatesDone (circuit n) level es h (place + 1) ms) (sym c.put.ensures)
          (gate_step n c.count.ensures.sound level old h c.loop-place.invariant.sound c.in_ok-literal.ensures.keeps ls es c.requires.schedule place
          c.loop-place.invariant.done (omega arith) e c.gate.ensures c.in_ok-literal.literal c.in_ok-literal.ensures.has made);
      keeps = λ k m same. c.in_ok-literal.ensures.keeps k m (c.loop-place.invariant.keeps k m same);
      sound = c.in_ok-literal.ensures.sound;
    }

pub returns-clause-done : goal.returns-clause-done
returns-clause-done g c =
    let high : length c.args.schedule.now ≤ c.loop-place.place = omega arith in
    all_gates c.args.netlist.now.net.now c.count.ensures.sound (slice_index c.args.netlist.now.levels.now) c.loop-place.graph c.loop-place.graph
    c.loop-place.invariant.sound (λ k m same. same) c.loop-place.literals c.args.schedule.now c.requires.schedule c.loop-place.place
    c.loop-place.invariant.done high
