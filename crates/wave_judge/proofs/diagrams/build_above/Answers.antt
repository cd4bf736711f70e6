use Rattle.std.proofs.Common.{◌≡◌, ℕ, ◌+◌, ◌∷◌, [], List, Some, length, slice_get, ap, sym, subst, ◌∙◌, length-append}
use Rattle.std.proofs.lemmas.Option.{get_or_from_slice_get}
use Rattle.dd_store.specs.declared.reference.Ref.{Ref}
use Rattle.pair_graph.specs.Literals.{node_literal}
use Rattle.wave_judge.specs.OverLeaves.{AreDiagramsOver, IsDiagramOver}
use Rattle.wave_judge.proofs.Built.{AreDiagramsOver-kept, AreDiagramsOver-push}
use Rattle.wave_judge.proofs.diagrams.build_above.Goals as goal

pub loop-place-preserved : goal.loop-place-preserved
loop-place-preserved g c =
    let graph = c.args.graph.now in
    let w = c.args.window.now in
    let S = c.loop-place.store in
    let T = c.build_node.new.store in
    let old : List Ref = c.loop-place.refs.items in
    let r : Ref = c.in_ok-built.built in
    let nodes : List ℕ = c.nodes-nodes.result.now in
    let before = AreDiagramsOver-kept graph w S T old c.levels.ensures.sound c.in_ok-built.ensures.keeps c.loop-place.invariant.built in
    let last = λ (n : ℕ) (at : slice_get w.nodes (length old) ≡ Some n).
    let e : slice_get nodes c.loop-place.place ≡ Some n =
    ap (λ (xs : List ℕ). slice_get xs c.loop-place.place) c.nodes-nodes.ensures ∙ ap (slice_get w.nodes) (sym c.loop-place.invariant.each) ∙ at in
    subst (λ (m : ℕ). IsDiagramOver graph w T (node_literal m) r) (get_or_from_slice_get nodes c.loop-place.place n 0 e) c.in_ok-built.ensures.built in
    record {
      built = subst (λ (rs : List Ref). AreDiagramsOver graph w T rs) (sym c.in-Ok.ensures.items) (AreDiagramsOver-push graph w T old r before last);
      right = c.in_ok-built.ensures.right;
      each = ap length c.in-Ok.ensures.items ∙ length-append old (r ∷ []) ∙ ap (λ (n : ℕ). n + 1) c.loop-place.invariant.each;
    }
