use Rattle.std.proofs.Common.{◌≡◌, ℕ, ◌+◌, length, get_or, set, refl, sym, ◌∙◌, subst, arith, inl, inr}
use Rattle.std.proofs.lemmas.Bool.{cases_lt}
use Rattle.std.proofs.lemmas.List.{get_or-set_other, get_or_default}
use Rattle.std.proofs.lemmas.Grind.{get_or-set_at}
use Rattle.dd_store.specs.declared.level.ShardState.{ShardState}
use Rattle.dd_store.specs.Levels.{IsNoted, all_at}
use Rattle.dd_store.proofs.makers.make_shards.Goals as goal

pub loop-place-preserved : goal.loop-place-preserved
loop-place-preserved g c =
    let v = c.loop-place.invariant in
    let p = c.loop-place.place in
    let e : ShardState = c.index-shards-place.result in
    let u : ShardState = c.note_lists.new.shard_state in
    let now : length c.loop-place.shards ≡ length c.args.shards.now = c.loop-place.auto.shards in
    let lt = c.loop-place-test.true in
    let Noted : ℕ → ShardState → ShardState → Type 0 = λ i old new. IsNoted c.args.lists.now.limit c.args.lists.now.level (c.args.first + i) (all_at c.args.lists.now.parts.now (c.args.first + i)) old new in
    let at : (d : ShardState) → Noted p (get_or c.args.shards.now p d) u = λ d.
    subst (λ z. Noted p z u) (get_or_default c.loop-place.shards p e d (omega (arith, now, lt)) ∙ v.rest p d (omega arith)) c.note_lists.ensures in
    record {
      made = λ i d le. elim (cases_lt i p) [
        | inl below ↦ subst (λ z. Noted i (get_or c.args.shards.now i d) z) (sym (get_or-set_other c.loop-place.shards p i u d (omega (arith, below)))) (v.made i d below)
        | inr above ↦
            let is : p ≡ i = omega (arith, le, above) in
            subst (λ j. Noted j (get_or c.args.shards.now j d) (get_or (set c.loop-place.shards p u) j d)) is
            (subst (λ z. Noted p (get_or c.args.shards.now p d) z) (sym (get_or-set_at c.loop-place.shards p p u d refl (omega (arith, now, lt)))) (at d))
      ];
      rest = λ j d le. get_or-set_other c.loop-place.shards p j u d (omega (arith, le)) ∙ v.rest j d (omega (arith, le));
    }

pub returns : goal.returns
returns g c = λ i d lt. c.loop-place.invariant.made i d (omega (arith, lt, c.loop-place-test.false, c.loop-place.auto.shards))
