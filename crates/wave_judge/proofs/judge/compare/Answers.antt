use Rattle.std.proofs.Common.{◌≡◌, ◌∙◌, sym}
use Rattle.dd_store.specs.Equal.{ref_same}
use Rattle.wave_judge.proofs.Built.{agree_over, complements_over}
use Rattle.wave_judge.proofs.judge.compare.Goals as goal

pub returns-then-eq : goal.returns-then-eq
returns-then-eq c =
    agree_over c.args.graph.now c.args.window.now c.args.store.now c.args.pair.0 c.args.pair.1 c.in-Some.f c.in-Some-literal_diagram.g
    c.requires.levels c.leaves.ensures.among c.in-Some.ensures c.in-Some-literal_diagram.ensures
    (ref_same c.in-Some.f c.in-Some-literal_diagram.g (sym c.if-eq.ensures))

pub returns-then-eq-2 : goal.returns-then-eq-2
returns-then-eq-2 c =
    let same : c.in-Some.f ≡ c.negate.result = ref_same c.in-Some.f c.negate.result (sym c.if-eq-2.ensures) in
    complements_over c.args.graph.now c.args.window.now c.args.store.now c.args.pair.0 c.args.pair.1 c.in-Some.f c.in-Some-literal_diagram.g
    c.requires.levels c.leaves.ensures.among c.in-Some.ensures c.in-Some-literal_diagram.ensures (same ∙ c.negate.ensures.value)
