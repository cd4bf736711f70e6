use Rattle.std.proofs.Common.{◌≡◌, ℕ, ◌<◌, ◌%◌, ◌++◌, ◌∷◌, [], filter, ap, subst, ◌∙◌}
use Rattle.expand_work.specs.Due.{asked_of}
use Rattle.expand_work.specs.Work.{at}
use Rattle.expand_work.specs.declared.expand.DueByOwner.{DueByOwner}
use Rattle.expand_work.proofs.DueRequests.{deal_here, deal_past}
use Rattle.expand_work.proofs.expand.deal_roots.Goals as goal
use Rattle.expand_work.proofs.expand.deal_roots.Goals.{then-place-asks+in_ok-push, else-place-asks}

pub loop-place-preserved : goal.loop-place-preserved
loop-place-preserved c =
    let S = c.args.store.now in
    let n : ℕ = c.args.asks.now.workers in
    let a : DueByOwner = c.loop-place.asks in
    let x = c.index-roots-place.result in
    let many : a.workers ≡ n = c.loop-place.invariant.workers in
    elim c.if-place-asks.branch [
      | then-place-asks+in_ok-push w ↦ record {
        workers = ap (λ (z : DueByOwner). z.workers) w.asks-is ∙ w.push.ensures.workers ∙ many;
        dealt = deal_here S n c.args.number c.args.roots.now c.loop-place.place x a.due w.push.new.self.due c.if-place-asks.asks.due c.loop-place-test.true c.index-roots-place.is c.loop-place.invariant.dealt
            w.level_of.result w.level_of.ensures (subst (λ z. c.loop-place.place % z ≡ c.args.number) many w.if-place-asks.true) (w.in_ok-push.ensures.long ∙ many)
            (subst (λ z. (k : ℕ) → k < z → at w.push.new.self.due k ≡ at a.due k ++ filter (asked_of z k) ((w.level_of.result, x) ∷ [])) many w.in_ok-push.ensures.grown)
            (ap (λ (z : DueByOwner). z.due) w.asks-is);
      }
      | else-place-asks w ↦ record {
        workers = ap (λ (z : DueByOwner). z.workers) w.asks-is ∙ many;
        dealt = deal_past S n c.args.number c.args.roots.now c.loop-place.place x a.due a.due c.if-place-asks.asks.due c.loop-place-test.true c.index-roots-place.is c.loop-place.invariant.dealt
            (subst (λ z. c.loop-place.place % z ≡ c.args.number → ⊥) many w.if-place-asks.false) (ap (λ (z : DueByOwner). z.due) w.asks-is);
      }
    ]
