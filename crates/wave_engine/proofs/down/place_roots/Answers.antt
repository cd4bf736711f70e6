use Rattle.std.proofs.Common.{◌≡◌, ℕ, rules, List, [], ◌∷◌, ◌++◌, take, sym, subst, Contains}
use Rattle.std.specs.List.{AllZip}
use Rattle.std.proofs.lemmas.Slice.Zip.{all_zipped_more}
use Rattle.req_table.specs.Keys.{IsChildIn, child as child_at}
use Rattle.reduce_up.specs.Waves.{Entry}
use Rattle.reduce_up.proofs.Rooted.{item_at, item_next}
use Rattle.req_table.specs.declared.packed_child.PackedChild.{PackedChild}
use Rattle.req_table.specs.Places.{IsPlaced, AdmitsChild}
use Rattle.wave_engine.proofs.Placing.{admitted_more, all_placed_kept, root_admitted}
use Rattle.wave_engine.proofs.down.place_roots.Goals as goal

pub loop-entry-preserved : goal.loop-entry-preserved
loop-entry-preserved c =
    let i : ℕ = c.loop-entry.entry-index in
    let es : List Entry = c.args.entries.now in
    let e : Entry = c.entry-item.result in
    let member : Contains es e = item_at es i e c.loop-entry-test.true c.entry-item.is in
    let stands : IsChildIn c.args.store.now (child_at c.args.store.now e.0 e.1 e.2) = subst (IsChildIn c.args.store.now) c.child-asked.ensures.value c.child-asked.ensures.in_store in
    let m : AdmitsChild c.loop-entry.requests (child_at c.args.store.now e.0 e.1 e.2) c.ask.new.self =
    subst (λ z. AdmitsChild c.loop-entry.requests z c.ask.new.self) c.child-asked.ensures.value c.in_ok-root.ensures.takes.1 in
    let placed : IsPlaced c.ask.new.self c.in_ok-root.root (child_at c.args.store.now e.0 e.1 e.2) =
    subst (λ z. IsPlaced c.ask.new.self c.in_ok-root.root z) c.child-asked.ensures.value c.in_ok-root.ensures.takes.0 in
    let grown : c.push.new.self.items ≡ c.loop-entry.roots.items ++ c.in_ok-root.root ∷ [] = search rules in
    record {
      admitted = admitted_more c.args.store.now es c.loop-entry.requests (child_at c.args.store.now e.0 e.1 e.2) c.ask.new.self c.loop-entry.invariant.admitted m
          (root_admitted c.args.store.now es e member stands);
      placed = rw (item_next es i e c.loop-entry-test.true c.entry-item.is)
          (subst (AllZip (λ (e : Entry) (p : PackedChild). IsPlaced c.ask.new.self p (child_at c.args.store.now e.0 e.1 e.2)) (take i es ++ e ∷ [])) (sym grown)
          (all_zipped_more (λ (e : Entry) (p : PackedChild). IsPlaced c.ask.new.self p (child_at c.args.store.now e.0 e.1 e.2)) (take i es) c.loop-entry.roots.items e c.in_ok-root.root
          (all_placed_kept c.args.store.now c.loop-entry.requests c.ask.new.self m.kept (take i es) c.loop-entry.roots.items c.loop-entry.invariant.placed) placed));
    }

pub ask-requires-clause-accepts : goal.ask-requires-clause-accepts
ask-requires-clause-accepts c = c.loop-entry.invariant.admitted.levels
