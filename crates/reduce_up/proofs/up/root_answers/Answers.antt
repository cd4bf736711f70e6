use Rattle.std.proofs.Common.{rules, ◌≡◌, ℕ, [], ◌∷◌, ◌++◌, take, sym, subst}
use Rattle.std.specs.List.{AllZip}
use Rattle.std.proofs.lemmas.List.Elements.{All-contains}
use Rattle.std.proofs.lemmas.Slice.Zip.{all_zipped_more}
use Rattle.dd_store.specs.declared.reference.Ref.{Ref}
use Rattle.reduce_up.proofs.Rooted.{item_at, item_next}
use Rattle.req_table.specs.declared.packed_child.PackedChild.{PackedChild}
use Rattle.reduce_up.specs.ReductionPhase.{ResolvesTo}
use Rattle.reduce_up.proofs.up.root_answers.Goals as goal

pub resolve-requires : goal.resolve-requires
resolve-requires c =
    let p : PackedChild = c.root-item.result in
    All-contains (λ (q : PackedChild). (r : Ref) × ResolvesTo c.args.answers.now q r) c.args.roots.now p c.requires (item_at c.args.roots.now c.loop-root.root-index p c.loop-root-test.true c.root-item.is)

pub loop-root-preserved : goal.loop-root-preserved
loop-root-preserved c =
    let i : ℕ = c.loop-root.root-index in
    let p : PackedChild = c.root-item.result in
    let grown : c.push.new.self.items ≡ c.loop-root.refs.items ++ c.resolve.result ∷ [] = search rules in
    rw (item_next c.args.roots.now i p c.loop-root-test.true c.root-item.is)
    (subst (AllZip (ResolvesTo c.args.answers.now) (take i c.args.roots.now ++ p ∷ [])) (sym grown)
    (all_zipped_more (ResolvesTo c.args.answers.now) (take i c.args.roots.now) c.loop-root.refs.items p c.resolve.result c.loop-root.invariant c.resolve.ensures))
