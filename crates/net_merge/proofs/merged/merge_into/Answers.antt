use Rattle.std.proofs.Common.{List, subst, sym, ◌∙◌}
use Rattle.std.specs.Prelude.{slice_index}
use Rattle.std.specs.List.{AllZip}
use Rattle.net_bench.specs.Circuit.{circuit}
use Rattle.pair_graph.specs.declared.node.Node.{Node}
use Rattle.pair_graph.specs.Literals.{Parts}
use Rattle.pair_graph.specs.Graphs.{IsGraph}
use Rattle.net_merge.specs.SignalLiterals.{AreSignalLiterals, IsPairFinding}
use Rattle.net_merge.proofs.SignalValues.{AreSignalLiterals-keeps}
use Rattle.net_merge.proofs.merged.merge_into.Goals as goal

pub returns-clause-first : goal.returns-clause-first
returns-clause-first g c =
    let c_first = circuit c.args.task.now.first.net.now in
    let level = slice_index c.args.task.now.first.levels.now in
    let same = c.into_graph.ensures ∙ c.in_ok-equal.ensures.unchanged in
    subst (λ (h : List Node). AreSignalLiterals c_first level h c.in_ok-first.first.items) (sym same)
    (AreSignalLiterals-keeps c_first level c.add_netlist.new.graph c.add_netlist-2.new.graph c.in_ok-first.ensures.sound
    c.in_ok-second.ensures.keeps c.in_ok-first.first.items c.in_ok-first.ensures.literals)

pub returns-clause-second : goal.returns-clause-second
returns-clause-second g c =
    let c_second = circuit c.args.task.now.second.net.now in
    let level = slice_index c.args.task.now.second.levels.now in
    let same = c.into_graph.ensures ∙ c.in_ok-equal.ensures.unchanged in
    subst (λ (h : List Node). AreSignalLiterals c_second level h c.in_ok-second.second.items) (sym same) c.in_ok-second.ensures.literals

pub returns-clause-found : goal.returns-clause-found
returns-clause-found g c =
    let second_graph = c.add_netlist-2.new.graph in
    let same = c.into_graph.ensures ∙ c.in_ok-equal.ensures.unchanged in
    let wanted = c.args.task.now.wanted.now in
    let found = c.in_ok-equal.equal.items in
    let first_found = subst (λ (ms : List Parts). AllZip (IsPairFinding second_graph c.as_slice-firsts.result.now ms) wanted found) c.as_slice-seconds.ensures.value c.in_ok-equal.ensures.found in
    let both_found = subst (λ (ls : List Parts). AllZip (IsPairFinding second_graph ls c.in_ok-second.second.items) wanted found) c.as_slice-firsts.ensures.value first_found in
    subst (λ (h : List Node). AllZip (IsPairFinding h c.in_ok-first.first.items c.in_ok-second.second.items) wanted found) (sym same) both_found

pub returns-clause-sound : goal.returns-clause-sound
returns-clause-sound g c =
    let same = c.into_graph.ensures ∙ c.in_ok-equal.ensures.unchanged in
    subst IsGraph (sym same) c.in_ok-second.ensures.sound
