use Rattle.std.proofs.Common.{◌≡◌, ◌+◌, ◌*◌, ◌∙◌, sym, subst, length, drop, arith}
use Rattle.net_bench.specs.Circuit.{circuit}
use Rattle.net_order.specs.Order.{condition, given_level}
use Rattle.net_patterns.specs.Differences.{AreFirst}
use Rattle.net_patterns.proofs.Differing.{have_output, kept_all}
use Rattle.net_patterns.proofs.Finding.{found_more, none_first, written_back}
use Rattle.net_patterns.proofs.differences.first_differences.Goals as goal

pub loop-block-init : goal.loop-block-init
loop-block-init c =
    let n = c.args.netlists.now in
    record {
      of = c.in_ok-sides.ensures;
      each = c.in_ok-at.ensures.len;
      found = subst (AreFirst (circuit n.first.now) (circuit n.second.now) (condition n.given) n.naming.now c.args.patterns.now 0 c.args.pairs.now) (sym c.in_ok-found.ensures)
          (none_first (circuit n.first.now) (circuit n.second.now) (condition n.given) n.naming.now c.args.patterns.now c.args.pairs.now);
    }

pub evaluate-holds-requires : goal.evaluate-holds-requires
evaluate-holds-requires c =
    let n = c.args.netlists.now in
    have_output (condition n.given) (given_level n.naming.now) c.loop-block.sides.given c.loop-block.invariant.of.condition c.requires.condition

pub loop-block-preserved : goal.loop-block-preserved
loop-block-preserved c =
    let n = c.args.netlists.now in
    let a = circuit n.first.now in
    let b = circuit n.second.now in
    let given = condition n.given in
    let p = n.naming.now in
    let of = c.loop-block.invariant.of in
    let at = c.set_block.new.at in
    let size : length at ≡ c.loop-block.at.len = c.set_block.auto.at ∙ c.as_mut_slice.ensures.len in
    let is : c.as_slice.result.now ≡ at = c.as_slice.ensures.value ∙ written_back at (drop (length at) c.loop-block.at.items) c.loop-block.at.len size in
    let each : length at ≡ length p.names = size ∙ c.loop-block.invariant.each ∙ c.requires.variables in
    let new = c.add_block.new.found in
    let before = c.as_mut_slice-in-loop-block.result.now in
    let same : before ≡ c.loop-block.found.items = c.as_mut_slice-in-loop-block.ensures.value in
    let whole : length new ≡ c.loop-block.found.len = c.add_block.auto.found ∙ c.as_mut_slice-in-loop-block.ensures.len in
    record {
      of = kept_all a b given p c.loop-block.sides c.evaluate-holds.new.sides c.evaluate-holds.ensures.kept of;
      each = c.loop-block.invariant.each;
      found = subst (AreFirst a b given p c.args.patterns.now (512 * (c.loop-block.block + 1)) c.args.pairs.now)
          (sym (written_back new (drop (length new) c.loop-block.found.items) c.loop-block.found.len whole))
          (found_more a b given p c.args.patterns.now c.loop-block.block c.args.pairs.now at c.as_slice.result.now is c.evaluate-holds.new.sides c.evaluate-holds.result c.loop-block.found.items before new same
          c.requires.pairs each c.set_block.ensures (c.evaluate-holds.ensures.shown a b given p of) (c.evaluate-holds.ensures.first a b given p of) c.add_block.auto.found c.add_block.ensures c.loop-block.invariant.found);
    }

pub returns : goal.returns
returns c =
    let n = c.args.netlists.now in
    let all : c.loop-block.block ≡ c.args.patterns.now.blocks = omega arith in
    subst (λ k. AreFirst (circuit n.first.now) (circuit n.second.now) (condition n.given) n.naming.now c.args.patterns.now (512 * k) c.args.pairs.now c.loop-block.found.items) all c.loop-block.invariant.found
