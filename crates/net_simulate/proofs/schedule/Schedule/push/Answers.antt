use Rattle.std.proofs.Common.{◌≡◌, ◌∷◌, [], ◌++◌, ◌∙◌, ap, length, map}
use Rattle.net_simulate.specs.declared.schedule.GateStep.{GateStep}
use Rattle.net_simulate.specs.Schedules.{equation_at, equation_of}
use Rattle.net_simulate.proofs.Pushing.{pushed}
use Rattle.net_simulate.proofs.schedule.Schedule.push.Goals as goal

pub returns : goal.returns
returns c =
    let ops = c.self.inside.operands.items in
    let more = c.args.gate.now.operands in
    let t : GateStep = record { out = c.args.gate.now.out; kind = c.args.gate.now.kind; from = c.len-from.result; to = c.len-to.result } in
    let items : c.extend_from_slice.new.self.items ≡ ops ++ more = c.in_ok-extend_from_slice.ensures.items ∙ ap (λ xs. ops ++ xs) c.as_slice.ensures in
    let from : c.len-from.result ≡ length ops = c.len-from.ensures ∙ c.self.inside.operands.ok.0 in
    let to : c.len-to.result ≡ length (ops ++ more) = c.len-to.ensures ∙ c.extend_from_slice.new.self.ok.0 ∙ ap length items in
    ap (λ os. map (equation_at os) c.push.new.self.items) items ∙ ap (map (equation_at (ops ++ more))) c.in_ok-push.ensures.items ∙
    pushed ops more c.self.inside.steps.items t c.self.invariant from to ∙ ap (λ es. es ++ equation_of c.args.gate.now ∷ []) c.self.view_is
