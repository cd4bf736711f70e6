use Rattle.std.proofs.Common.{sym, ◌∙◌, ◌≡◌, List, length, ap, subst}
use Rattle.gate_plan.specs.Building.{PlannedNet, circuits_of, ArePlannedNets, AllRight, AreVariables, input_level}
use Rattle.gate_plan.proofs.Pairs.{placed_fits}
use Rattle.gate_plan.proofs.Running.{inputs_right}
use Rattle.gate_plan.proofs.building.begin.Goals as goal

pub input_diagrams-requires : goal.input_diagrams-requires
input_diagrams-requires c = λ one there s among.
    let p = circuits_of c.args.circuits.now in
    let sides = c.as_slice.result.now in
    let placed : ArePlannedNets p.first p.second p.given p.pairing sides = subst (ArePlannedNets p.first p.second p.given p.pairing) (sym c.as_slice.ensures.value) c.in_ok-sides.ensures in
    let count : length c.as_slice-2.result.now ≡ length p.pairing.names = ap length c.as_slice-2.ensures.value ∙ c.in_ok-variables.ensures.made.each ∙ c.make_variables.ensures.adds.keeps.levels ∙ c.requires.levels in
    placed_fits p.first p.second p.given p.pairing (length c.as_slice-2.result.now) sides c.requires.paired count placed.netlists one there s among

pub returns-clause-begun : goal.returns-clause-begun
returns-clause-begun c =
    let p = circuits_of c.args.circuits.now in
    let S = c.make_variables.new.store in
    let sides = c.as_slice.result.now in
    let placed : ArePlannedNets p.first p.second p.given p.pairing sides = subst (ArePlannedNets p.first p.second p.given p.pairing) (sym c.as_slice.ensures.value) c.in_ok-sides.ensures in
    let count : length c.as_slice-2.result.now ≡ length p.pairing.names = ap length c.as_slice-2.ensures.value ∙ c.in_ok-variables.ensures.made.each ∙ c.make_variables.ensures.adds.keeps.levels ∙ c.requires.levels in
    let made : AreVariables S c.as_slice-2.result.now = subst (AreVariables S) (sym c.as_slice-2.ensures.value) c.in_ok-variables.ensures.made in
    let right : AllRight sides S c.in_ok-built.built.items 1 = (
      c.in_ok-built.ensures.0,
      λ k one refs lt at there.
          inputs_right one.net (placed.plans one (k, lt, at)).sound (input_level one) S c.as_slice-2.result.now refs made (c.in_ok-built.ensures.1 k one refs lt at there)
          (placed_fits p.first p.second p.given p.pairing (length c.as_slice-2.result.now) sides c.requires.paired count placed.netlists one (k, lt, at)),
    ) in
    record {
      placed = c.in_ok-sides.ensures;
      variables = (c.in_ok-variables.variables.items, c.in_ok-variables.ensures.made);
      right = subst (λ (z : List PlannedNet). AllRight z S c.in_ok-built.built.items 1) c.as_slice.ensures.value right;
    }
