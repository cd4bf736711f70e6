use Rattle.std.proofs.Common.{◌≡◌, ℕ, Some, length, slice_get, refl, ap, sym, subst, ◌∙◌, rules}
use Rattle.std.proofs.lemmas.Option.{slice_get_read}
use Rattle.slot_table.specs.Lists.{IsIn}
use Rattle.dd_store.specs.declared.reference.Ref.{Ref}
use Rattle.dd_store.specs.declared.reference.Reference.TheVariants.{False}
use Rattle.dd_store.specs.Complements.{complement_by}
use Rattle.wave_judge.proofs.Built.{constant-diagram, literal-diagram}
use Rattle.wave_judge.proofs.leaves.literal_diagram.Goals as goal

pub returns-in-Some : goal.returns-in-Some
returns-in-Some c =
    let l = c.args.literal in
    let r : Ref = c.index-refs-place.result in
    let at : slice_get c.args.window.now.nodes c.in-Some.place ≡ Some l.node = c.in-Some.ensures ∙ ap (λ (n : ℕ). Some n) c.node.ensures.value in
    let e : slice_get c.args.refs.now c.in-Some.place ≡ Some r =
    slice_get_read c.args.refs.now (length c.args.refs.now) c.in-Some.place r refl c.if-place-refs.true c.index-refs-place.is in
    literal-diagram c.args.graph.now c.args.window.now c.args.store.now l r c.complement_if.result (c.requires.each c.in-Some.place l.node r at e)
    (c.complement_if.ensures ∙ ap (λ b. complement_by b r) c.is_complemented.ensures)

pub returns-in-None : goal.returns-in-None
returns-in-None c =
    let l = c.args.literal in
    let zero_is : l.node ≡ 0 = search rules in
    let absent = λ (h : IsIn c.args.window.now.nodes l.node). c.in-None.ensures (subst (IsIn c.args.window.now.nodes) (sym c.node.ensures.value) h) in
    literal-diagram c.args.graph.now c.args.window.now c.args.store.now l False c.complement_if-in-None.result
    (constant-diagram c.args.graph.now c.args.window.now c.args.store.now l.node c.len.ensures.sound zero_is absent)
    (c.complement_if-in-None.ensures ∙ ap (λ b. complement_by b False) c.is_complemented-in-None.ensures)
