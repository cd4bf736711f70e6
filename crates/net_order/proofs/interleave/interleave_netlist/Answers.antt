use Rattle.std.proofs.Common.{◌≡◌, ◌≤◌, ◌<◌, ◌∙◌, ap, sym, subst, arith, length, map, All}
use Rattle.std.specs.Prelude.{None, fold, slice_index}
use Rattle.net_bench.specs.Circuit.{Net, circuit}
use Rattle.net_order.specs.declared.walk.OperandOrder.{OperandOrder}
use Rattle.net_order.specs.declared.walk.OperandOrder.TheVariants.{ByRank}
use Rattle.net_order.specs.Order.{below, met_below, in_walk_order, interleave_walk, interleave_below, with_number}
use Rattle.net_order.specs.Walk.{IsBetweenWalks}
use Rattle.net_order.proofs.Walks.{low_ranked}
use Rattle.net_order.proofs.InterleavedNumbers.{all_met, more_in, next, next_still, still_in}
use Rattle.net_order.proofs.interleave.interleave_netlist.Goals as goal
use Rattle.net_order.proofs.interleave.interleave_netlist.Goals.{then-len-before+in_ok-met+in_ok-interleave_walk, else-len-before}

pub walk_below-requires-clause-in_bounds : goal.walk_below-requires-clause-in_bounds
walk_below-requires-clause-in_bounds c =
    low_ranked c.args.net.now c.in_ok-roots.roots.items c.in_ok-ranked.ranked.items c.as_slice-ranked.result.now c.loop-root.root-index c.root-item.result c.number.result (length c.in_ok-ordered_net.ordered_net.net.now.names)
    c.in_ok-roots.ensures.known (c.in_ok-ranked.ensures ∙ ap (in_walk_order ByRank (circuit c.args.net.now)) c.as_slice.ensures.value) c.as_slice-ranked.ensures.value c.loop-root-test.true c.root-item.is c.number.ensures (ap (λ (n : Net). length n.names) c.in_ok-ordered_net.ensures.net)

pub met_below-requires-clause-in_bounds : goal.met_below-requires-clause-in_bounds
met_below-requires-clause-in_bounds c =
    low_ranked c.args.net.now c.in_ok-roots.roots.items c.in_ok-ranked.ranked.items c.as_slice-ranked.result.now c.loop-root.root-index c.root-item.result c.number-then-len-before.result (length c.in_ok-ordered_net.ordered_net.net.now.names)
    c.in_ok-roots.ensures.known (c.in_ok-ranked.ensures ∙ ap (in_walk_order ByRank (circuit c.args.net.now)) c.as_slice.ensures.value) c.as_slice-ranked.ensures.value c.loop-root-test.true c.root-item.is c.number-then-len-before.ensures (ap (λ (n : Net). length n.names) c.in_ok-ordered_net.ensures.net)

pub interleave_walk-requires-clause-low : goal.interleave_walk-requires-clause-low
interleave_walk-requires-clause-low c =
    subst (λ k. All (λ s. slice_index c.args.variables.now s < k) c.as_slice-then-len-before.result.now) (sym c.loop-root.invariant.len)
    (all_met (λ s. slice_index c.args.variables.now s < length c.args.seen.now.items) (circuit c.args.net.now) c.root-item.result c.as_slice-then-len-before.result.now c.requires.low
    (c.as_slice-then-len-before.ensures.value ∙ c.in_ok-met.ensures ∙ ap (λ (w : OperandOrder). met_below w (circuit c.in_ok-ordered_net.ordered_net.net.now) c.number-then-len-before.result) c.in_ok-ordered_net.ensures.operand_order ∙
    ap (λ (n : Net). met_below ByRank (circuit n) c.number-then-len-before.result) c.in_ok-ordered_net.ensures.net ∙ ap (met_below ByRank (circuit c.args.net.now)) c.number-then-len-before.ensures))

pub loop-root-preserved : goal.loop-root-preserved
loop-root-preserved c =
    let n = circuit c.args.net.now in
    let variable = slice_index c.args.variables.now in
    let s = c.root-item.result in
    let now = c.walk_below.new.found.items in
    let between_walks : IsBetweenWalks ByRank (circuit c.args.net.now) c.walk_below.new.found.items c.walk_below.new.seen.items =
    subst (λ (m : Net). IsBetweenWalks ByRank (circuit m) c.walk_below.new.found.items c.walk_below.new.seen.items) c.in_ok-ordered_net.ensures.net
    (subst (λ (w : OperandOrder). IsBetweenWalks w (circuit c.in_ok-ordered_net.ordered_net.net.now) c.walk_below.new.found.items c.walk_below.new.seen.items) c.in_ok-ordered_net.ensures.operand_order c.in_ok-walk_below.ensures.between_walks) in
    let is_now : c.walk_below.new.found.items ≡ fold with_number c.loop-root.found.items (below ByRank (circuit c.args.net.now) c.root-item.result) =
    c.in_ok-walk_below.ensures.found ∙ ap (λ (w : OperandOrder). fold with_number c.loop-root.found.items (below w (circuit c.in_ok-ordered_net.ordered_net.net.now) c.number.result)) c.in_ok-ordered_net.ensures.operand_order ∙
    ap (λ (m : Net). fold with_number c.loop-root.found.items (below ByRank (circuit m) c.number.result)) c.in_ok-ordered_net.ensures.net ∙
    ap (λ k. fold with_number c.loop-root.found.items (below ByRank (circuit c.args.net.now) k)) c.number.ensures in
    elim c.if-len-before.branch [
      | then-len-before+in_ok-met+in_ok-interleave_walk w ↦
          let is_met : w.as_slice-then-len-before.result.now ≡ met_below ByRank (circuit c.args.net.now) c.root-item.result =
          w.as_slice-then-len-before.ensures.value ∙ w.in_ok-met.ensures ∙ ap (λ (x : OperandOrder). met_below x (circuit c.in_ok-ordered_net.ordered_net.net.now) w.number-then-len-before.result) c.in_ok-ordered_net.ensures.operand_order ∙
          ap (λ (m : Net). met_below ByRank (circuit m) w.number-then-len-before.result) c.in_ok-ordered_net.ensures.net ∙ ap (met_below ByRank (circuit c.args.net.now)) w.number-then-len-before.ensures in
          let is_new : w.interleave_walk.new.order.items ≡ interleave_below (circuit c.args.net.now) (slice_index c.args.variables.now) c.loop-root.order.items c.root-item.result =
          w.in_ok-interleave_walk.ensures.interleaved_numbers ∙ ap (λ xs. interleave_walk c.loop-root.order.items None (map (slice_index c.args.variables.now) xs)) is_met in
          rw (w.order-is, w.seen-is) (record {
            between_walks = between_walks;
            visited = w.in_ok-interleave_walk.ensures.visited;
            len = w.in_ok-interleave_walk.ensures.len ∙ c.loop-root.invariant.len;
            held = more_in n variable c.loop-root.order.items w.interleave_walk.new.order.items c.loop-root.found.items now s c.loop-root.invariant.held is_now is_new;
            rest = next n variable c.as_slice-ranked.result.now c.loop-root.order.items w.interleave_walk.new.order.items _ c.loop-root.root-index s c.loop-root-test.true c.root-item.is is_new c.loop-root.invariant.rest;
          })
      | else-len-before w ↦
          let few : length c.walk_below.new.found.items ≤ length c.loop-root.found.items =
          omega (arith, w.if-len-before.false, c.len.ensures, c.len-before.ensures, c.walk_below.new.found.ok.0, c.loop-root.found.ok.0) in
          rw (w.order-is, w.seen-is) (record {
            between_walks = between_walks;
            visited = c.loop-root.invariant.visited;
            len = c.loop-root.invariant.len;
            held = still_in n variable c.loop-root.order.items c.loop-root.found.items now s c.loop-root.invariant.held is_now few;
            rest = next_still n variable c.as_slice-ranked.result.now c.loop-root.order.items c.loop-root.found.items now _ c.loop-root.root-index s c.loop-root-test.true c.root-item.is c.loop-root.invariant.held is_now few c.loop-root.invariant.rest;
          })
    ]
