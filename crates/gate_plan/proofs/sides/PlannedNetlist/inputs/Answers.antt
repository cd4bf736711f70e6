use Rattle.std.proofs.Common.{subst}
use Rattle.std.specs.Prelude.{IfOk}
use Rattle.gate_plan.specs.Building.{PlannedNet, input_level, AreInputs}
use Rattle.gate_plan.proofs.sides.PlannedNetlist.inputs.Goals as goal

pub returns : goal.returns
returns c =
    subst (λ (z : PlannedNet). IfOk c.input_references.result (λ v. AreInputs z.net (input_level z) c.args.variables.now v.items)) c.self.view_is c.input_references.ensures
