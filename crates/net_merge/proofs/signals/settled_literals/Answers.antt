use Rattle.std.proofs.Common.{ℕ, ◌+◌, ◌<◌, ◌∷◌, [], List, length, length-append, ap, sym, subst, ◌∙◌, arith}
use Rattle.pair_graph.specs.declared.node.Node.{Node}
use Rattle.pair_graph.specs.Literals.{Parts}
use Rattle.net_merge.specs.Merging.{IsSettled}
use Rattle.net_merge.specs.SignalLiterals.{literal_at}
use Rattle.net_merge.proofs.Settling.{settled_more}
use Rattle.net_merge.proofs.signals.settled_literals.Goals as goal

pub loop-place-preserved : goal.loop-place-preserved
loop-place-preserved g c =
    let graph = c.args.graph.now in
    let ls = c.args.literals.now in
    let ms = c.loop-place.settled.items in
    let l = c.index-literals-place.result in
    let m = c.in_ok-literal.literal in
    let here : IsSettled graph l m = subst (λ (h : List Node). IsSettled h l m) c.loop-place.invariant.same c.in_ok-literal.ensures.settled in
    record {
      each = ap length c.in_ok-push.ensures.items ∙ length-append ms (m ∷ []) ∙ ap (λ (n : ℕ). n + 1) c.loop-place.invariant.each;
      same = c.in_ok-literal.ensures.unchanged ∙ c.loop-place.invariant.same;
      settled = λ s low. subst (λ (xs : List Parts). IsSettled graph (literal_at ls s) (literal_at xs s)) (sym c.in_ok-push.ensures.items)
          (settled_more graph ls ms l m c.loop-place.place c.loop-place.invariant.each c.loop-place-test.true c.index-literals-place.is here
          c.loop-place.invariant.settled s low);
    }

pub returns-clause-settled : goal.returns-clause-settled
returns-clause-settled g c =
    let last = c.loop-place-test.false in
    let low = λ (s : ℕ) (lt : s < length c.args.literals.now). c.loop-place.invariant.settled s (omega (arith, last, lt)) in
    record {
      each = omega (arith, last, c.loop-place.invariant.each);
      settled = low;
    }
