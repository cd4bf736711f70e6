use Rattle.net_bench.specs.Circuit.{circuit}
use Rattle.net_order.specs.Order.{condition, given_level}
use Rattle.net_patterns.proofs.Differing.{have_output, kept_all, outputs_kept}
use Rattle.net_patterns.proofs.Finding.{smaller_twice}
use Rattle.net_patterns.proofs.small.make_small.Goals as goal

pub by_windows-requires-3-clause-output : goal.by_windows-requires-3-clause-output
by_windows-requires-3-clause-output c =
    let n = c.args.netlists.now in
    outputs_kept c.by_windows.new.sides c.by_windows-2.new.sides c.by_windows-2.ensures.kept
    (outputs_kept c.in_ok-sides.sides c.by_windows.new.sides c.by_windows.ensures.kept
    (have_output (condition n.given) (given_level n.naming.now) c.in_ok-sides.sides.given c.in_ok-sides.ensures.condition c.requires.condition))

pub by_windows-requires-4-clause-output : goal.by_windows-requires-4-clause-output
by_windows-requires-4-clause-output c =
    let n = c.args.netlists.now in
    outputs_kept c.by_windows-2.new.sides c.by_windows-3.new.sides c.by_windows-3.ensures.kept
    (outputs_kept c.by_windows.new.sides c.by_windows-2.new.sides c.by_windows-2.ensures.kept
    (outputs_kept c.in_ok-sides.sides c.by_windows.new.sides c.by_windows.ensures.kept
    (have_output (condition n.given) (given_level n.naming.now) c.in_ok-sides.sides.given c.in_ok-sides.ensures.condition c.requires.condition)))

pub returns : goal.returns
returns c =
    let n = c.args.netlists.now in
    let a = circuit n.first.now in
    let b = circuit n.second.now in
    let given = condition n.given in
    let p = n.naming.now in
    let one = c.in_ok-sides.ensures in
    let two = kept_all a b given p c.in_ok-sides.sides c.by_windows.new.sides c.by_windows.ensures.kept one in
    let three = kept_all a b given p c.by_windows.new.sides c.by_windows-2.new.sides c.by_windows-2.ensures.kept two in
    let four = kept_all a b given p c.by_windows-2.new.sides c.by_windows-3.new.sides c.by_windows-3.ensures.kept three in
    let rough = c.in_ok-rough.ensures.smaller a b given p one c.requires.difference in
    let finer = c.in_ok-finer.ensures.smaller a b given p two rough.difference in
    let fine = c.in_ok-fine.ensures.smaller a b given p three finer.difference in
    let small = c.in_ok-small.ensures.smaller a b given p four fine.difference in
    smaller_twice a b given p c.args.pair c.args.found c.in_ok-rough.rough c.in_ok-small.small rough
    (smaller_twice a b given p c.args.pair c.in_ok-rough.rough c.in_ok-finer.finer c.in_ok-small.small finer
    (smaller_twice a b given p c.args.pair c.in_ok-finer.finer c.in_ok-fine.fine c.in_ok-small.small fine small))
