use Rattle.std.proofs.Common.{◌≡◌, ◌∙◌, length, subst, sym}
use Rattle.std.proofs.lemmas.List.{length-map}
use Rattle.net_bench.specs.Circuit.{circuit}
use Rattle.net_bench.specs.Labels.{IsFunctionOf}
use Rattle.net_simulate.specs.Columns.{column}
use Rattle.net_simulate.proofs.Setting.{by_level, function_value, labelling_of}
use Rattle.net_simulate.proofs.simulation.simulate.Goals as goal

pub returns-clause-labelling : goal.returns-clause-labelling
returns-clause-labelling g c = λ level is i low.
    let bit = g.V.Packed.bit in
    let each : length (column bit i c.set_gates.new.values) ≡ length c.args.net.now.names =
    length-map c.set_gates.new.values (bit i) ∙ c.set_gates.auto.values ∙ c.set_variables.auto.values ∙ c.requires.each in
    labelling_of c.args.net.now c.variables.ensures.sound level (column bit i c.args.at.now) (column bit i c.set_variables.new.values) (column bit i c.set_gates.new.values) c.args.schedule.now
    c.requires.schedule each (by_level bit g.V.Packed.count c.args.net.now c.args.levels.now level c.args.at.now c.set_variables.new.values c.set_variables.ensures is i low)
    (c.set_gates.ensures.kept i low) (c.set_gates.ensures.set i low)

pub returns-clause-functions : goal.returns-clause-functions
returns-clause-functions g c = λ level is i low s f less of.
    let bit = g.V.Packed.bit in
    function_value c.args.net.now c.variables.ensures.sound level (column bit i c.args.at.now) (column bit i c.set_gates.new.values) (returns-clause-labelling g c level is i low) s f less
    (subst (λ k. IsFunctionOf (circuit c.args.net.now) level k s f) (sym (length-map c.args.at.now (bit i))) of)
