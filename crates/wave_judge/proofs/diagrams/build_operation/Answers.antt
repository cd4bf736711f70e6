use Rattle.wave_judge.proofs.Built.{operation-diagram}
use Rattle.wave_judge.proofs.diagrams.build_operation.Goals as goal

pub returns-clause-built : goal.returns-clause-built
returns-clause-built g c =
    operation-diagram c.args.graph.now c.args.window.now c.args.store.now c.operate.new.store c.args.operation.0 c.args.operation.1 c.args.operation.2
    c.in-Some.f c.in-Some-literal_diagram.g c.in_ok-answer.answer c.in_ok-answer.ensures.keeps.levels c.in-Some.ensures c.in-Some-literal_diagram.ensures
    c.in_ok-answer.ensures.answer
