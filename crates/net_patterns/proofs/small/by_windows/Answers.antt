use Rattle.std.proofs.Common.{◌∙◌}
use Rattle.net_patterns.proofs.Differing.{all_twice, kept_all}
use Rattle.net_patterns.proofs.Finding.{smaller_twice}
use Rattle.net_patterns.proofs.small.by_windows.Goals as goal

pub loop-from-preserved : goal.loop-from-preserved
loop-from-preserved c =
    let start = c.args.sides.now in
    let before = c.loop-from.sides in
    let after = c.try_window.new.sides in
    let kept = c.loop-from.invariant.kept in
    record {
      each = c.in_ok-small.ensures.each ∙ c.loop-from.invariant.each;
      kept = all_twice start before after kept c.try_window.ensures.kept;
      smaller = λ a b given p of difference.
          let first = c.loop-from.invariant.smaller a b given p of difference in
          let second = c.in_ok-small.ensures.smaller a b given p (kept_all a b given p start before kept of) first.difference in
          smaller_twice a b given p c.args.pair.now c.args.small c.loop-from.small c.in_ok-small.small first second;
    }
