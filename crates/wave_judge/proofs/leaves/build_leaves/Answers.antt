use Rattle.std.proofs.Common.{◌≡◌, ◌<◌, ℕ, ◌+◌, ◌∷◌, [], List, Some, length, slice_get, ap, sym, subst, ◌∙◌, length-append, arith}
use Rattle.dd_store.specs.declared.reference.Ref.{Ref}
use Rattle.dd_store.specs.View.{Keeps}
use Rattle.dd_store.proofs.View.{keeps}
use Rattle.wave_judge.specs.OverLeaves.{AreDiagramsOver}
use Rattle.wave_judge.proofs.Built.{AreDiagramsOver-kept, AreDiagramsOver-push, leaf-diagram}
use Rattle.wave_judge.proofs.leaves.build_leaves.Goals as goal

pub loop-level-preserved : goal.loop-level-preserved
loop-level-preserved c =
    let w = c.args.window.now in
    let S = c.loop-level.store in
    let T = c.variable.new.self in
    let old : List Ref = c.loop-level.refs.items in
    let r : Ref = c.in_ok-built.built in
    let kept : Keeps S T = keeps S T c.variable.ensures.extends in
    let low : c.loop-level.level < w.cut = omega (arith, c.leaves-leaves.ensures.value) in
    record {
      sound = c.variable.ensures.sound;
      levels = kept.levels ∙ c.loop-level.invariant.levels;
      each = ap length c.in-Ok.ensures.items ∙ length-append old (r ∷ []) ∙ ap (λ (n : ℕ). n + 1) c.loop-level.invariant.each;
      built = λ g. subst (λ (rs : List Ref). AreDiagramsOver g w T rs) (sym c.in-Ok.ensures.items)
          (AreDiagramsOver-push g w T old r
          (AreDiagramsOver-kept g w S T old c.loop-level.invariant.sound kept (c.loop-level.invariant.built g))
          (λ n at. leaf-diagram g w T c.loop-level.level n r c.leaves-leaves.ensures.once low
          (subst (λ (j : ℕ). slice_get w.nodes j ≡ Some n) c.loop-level.invariant.each at) c.in_ok-built.ensures.in_store c.in_ok-built.ensures.meaning));
    }
