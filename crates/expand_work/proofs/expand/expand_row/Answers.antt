use Rattle.std.proofs.Common.{rules, ◌≡◌, ◌<◌, length, ℕ, ◌+◌, List, [], ◌∷◌, ◌++◌, get_or, take, sym, ap, subst, ◌∙◌, arith}
use Rattle.std.proofs.lemmas.List.{take_more}
use Rattle.std.proofs.lemmas.Option.{get_or_from_slice_get}
use Rattle.req_table.specs.declared.Key.{Key}
use Rattle.req_table.specs.declared.Record.{Record}
use Rattle.req_table.specs.declared.packed_child.PackedChild.{PackedChild}
use Rattle.expand_work.specs.TakenChildren.{AreTaken}
use Rattle.expand_work.proofs.OneByOne.{taken_more}
use Rattle.expand_work.proofs.expand.expand_row.Goals as goal

pub loop-place-preserved : goal.loop-place-preserved
loop-place-preserved g c =
    let S = c.args.store.now in
    let keys : List Key = c.args.keys.now in
    let place : ℕ = c.loop-place.place in
    let k : Key = c.key_at.result in
    let is : k ≡ get_or keys place k = sym (get_or_from_slice_get keys place k k c.key_at.ensures) in
    let fits : place < length keys = search rules in
    let takes = g.A.ChildSink.takes in
    let row : List (PackedChild × PackedChild) = c.loop-place.row ++ (c.in_ok-low.low, c.in_ok-high.high) ∷ [] in
    record {
      accepts = c.in_ok-high.ensures.accepts;
      taken = subst (λ (z : List (PackedChild × PackedChild)). AreTaken takes S c.args.asks.now (take (place + 1) keys) z c.ask-in-loop-place.new.self) (sym c.in_ok-push.ensures.done)
          (subst (λ (z : List Key). AreTaken takes S c.args.asks.now z row c.ask-in-loop-place.new.self) (ap (λ z. take place keys ++ z ∷ []) is ∙ sym (take_more keys place k fits))
          (taken_more takes S c.args.asks.now (take place keys) c.loop-place.row c.loop-place.asks c.loop-place.invariant.taken k c.in_ok-low.low c.in_ok-high.high c.ask.new.self c.ask-in-loop-place.new.self
          (subst (λ z. takes c.loop-place.asks z c.in_ok-low.low c.ask.new.self) (ap (λ (z : Record). z.low) c.split-record.ensures.record) c.in_ok-low.ensures.takes)
          (subst (λ z. takes c.ask.new.self z c.in_ok-high.high c.ask-in-loop-place.new.self) (ap (λ (z : Record). z.high) c.split-record.ensures.record) c.in_ok-high.ensures.takes)));
      split = let e = c.split-record.ensures.count in let h = c.loop-place.invariant.split in omega (arith, e, h);
    }
