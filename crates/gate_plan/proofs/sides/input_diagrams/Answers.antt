use Rattle.std.proofs.Common.{◌≡◌, ◌∙◌, ◌+◌, ◌<◌, ◌∷◌, [], ap, sym, length, length-append, arith}
use Rattle.gate_plan.specs.Building.{input_level, AreInputs}
use Rattle.gate_plan.proofs.Together.{pushed_each}
use Rattle.gate_plan.proofs.sides.input_diagrams.Goals as goal

pub loop-i-preserved : goal.loop-i-preserved
loop-i-preserved c =
    let low : c.loop-i.i < length c.args.sides.now = omega arith in
    let refs = c.in_ok-references.references.items in
    record {
      len = ap length c.in_ok-push.ensures.items ∙ length-append c.loop-i.built.items (refs ∷ []) ∙ ap (λ n. n + 1) c.loop-i.invariant.len;
      each = pushed_each (λ one rs. AreInputs one.net (input_level one) c.args.variables.now rs) c.args.sides.now c.loop-i.built.items c.push.new.self.items c.loop-i.i c.index-sides-i.result refs low c.loop-i.invariant.len
          c.in_ok-push.ensures.items (sym c.index-sides-i.is) c.in_ok-references.ensures c.loop-i.invariant.each;
    }

pub returns : goal.returns
returns c =
    let n : c.loop-i.i ≡ length c.args.sides.now = omega arith in
    (c.loop-i.invariant.len ∙ n, λ k one refs lt at there. c.loop-i.invariant.each k one refs (omega arith) at there)
