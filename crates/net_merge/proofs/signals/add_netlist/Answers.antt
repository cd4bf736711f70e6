use Rattle.std.proofs.Common.{List, sym, subst}
use Rattle.std.specs.Prelude.{slice_index}
use Rattle.net_bench.specs.Circuit.{circuit}
use Rattle.pair_graph.specs.declared.node.Node.{Node}
use Rattle.pair_graph.specs.Graphs.{IsGraph, KeepsNodes}
use Rattle.net_merge.specs.SignalLiterals.{AreSignalLiterals}
use Rattle.net_merge.proofs.Settling.{AreSignalLiterals-settled}
use Rattle.net_merge.proofs.Stepping.{no_gates}
use Rattle.net_merge.proofs.signals.add_netlist.Goals as goal

pub add_gates-requires-clause-start : goal.add_gates-requires-clause-start
add_gates-requires-clause-start g c κs within =
    no_gates c.args.netlist.now.net.now c.in_ok-schedule.ensures.sound (slice_index c.args.netlist.now.levels.now) c.add_variables.new.graph
    c.add_variables.new.graph c.in_ok-add_variables.ensures.sound (λ k m same. same) c.add_variables.new.literals c.in_ok-schedule.schedule
    c.in_ok-add_variables.ensures.done

pub returns-clause-literals : goal.returns-clause-literals
returns-clause-literals g c =
    let n = circuit c.args.netlist.now.net.now in
    let level = slice_index c.args.netlist.now.levels.now in
    subst (λ (h : List Node). AreSignalLiterals n level h c.in_ok-settled.settled.items) (sym c.in_ok-settled.ensures.unchanged)
    (AreSignalLiterals-settled n level c.add_gates.new.graph c.add_gates.new.literals c.in_ok-settled.settled.items c.in_ok-add_gates.ensures.done
    c.in_ok-settled.ensures.settled)

pub returns-clause-keeps : goal.returns-clause-keeps
returns-clause-keeps g c =
    subst (λ (h : List Node). KeepsNodes c.args.graph.now h) (sym c.in_ok-settled.ensures.unchanged)
    (λ k m e. c.in_ok-add_gates.ensures.keeps k m (c.in_ok-add_variables.ensures.keeps k m e))

pub returns-clause-sound : goal.returns-clause-sound
returns-clause-sound g c = subst IsGraph (sym c.in_ok-settled.ensures.unchanged) c.in_ok-add_gates.ensures.sound
