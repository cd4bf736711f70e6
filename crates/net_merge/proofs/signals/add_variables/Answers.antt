use Rattle.std.proofs.Common.{◌≡◌, ℕ, ◌+◌, List, Some, slice_get, sym, ap, subst, ◌∙◌}
use Rattle.std.proofs.lemmas.Option.{slice_get-get_or}
use Rattle.std.specs.Prelude.{slice_index}
use Rattle.net_bench.specs.Circuit.{circuit, variables_of}
use Rattle.pair_graph.specs.Literals.{Parts}
use Rattle.net_merge.specs.SignalLiterals.{AreVariablesDone}
use Rattle.net_merge.proofs.Stepping.{variable_step}
use Rattle.net_merge.proofs.signals.add_variables.Goals as goal

pub loop-place-preserved : goal.loop-place-preserved
loop-place-preserved g c =
    let n = c.args.netlist.now.net.now in
    let level = slice_index c.args.netlist.now.levels.now in
    let place = c.loop-place.place in
    let vars : List ℕ = c.variables-variables.result.now in
    let s : ℕ = c.index-variables-place.result in
    let there : slice_get vars place ≡ Some s = slice_get-get_or vars place s c.loop-place-test.true ∙ ap (λ (t : ℕ). Some t) (sym c.index-variables-place.is) in
    let at : slice_get (variables_of (circuit n)) place ≡ Some s = subst (λ (xs : List ℕ). slice_get xs place ≡ Some s) c.variables-variables.ensures.value there in
    record {
      done = subst (λ (ls : List Parts). AreVariablesDone (circuit n) level c.variable.new.self (place + 1) ls) (sym c.put.ensures)
          (variable_step n c.variables-variables.ensures.sound level c.loop-place.graph c.variable.new.self c.loop-place.invariant.sound
          c.in_ok-literal.ensures.keeps c.loop-place.literals place s c.level_of.result c.in_ok-literal.literal c.loop-place.invariant.done at
          c.level_of.ensures c.in_ok-literal.ensures.has c.in_ok-literal.ensures.value);
      keeps = λ k m e. c.in_ok-literal.ensures.keeps k m (c.loop-place.invariant.keeps k m e);
      sound = c.in_ok-literal.ensures.sound;
    }
