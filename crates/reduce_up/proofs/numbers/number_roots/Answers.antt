use Rattle.reduce_up.specs.Numbers.{IsRootPlaced}
use Rattle.reduce_up.proofs.Numbered.{next_placed}
use Rattle.reduce_up.proofs.numbers.number_roots.Goals as goal

pub loop-root-preserved : goal.loop-root-preserved
loop-root-preserved c = record {
  tasks = c.number_root-child.ensures.tasks;
  placed = next_placed (IsRootPlaced c.args.input) c.args.roots.now c.loop-root.root c.loop-root.placed.items c.push.new.self.items c.number_root-child.result c.loop-root-test.true c.in_ok-push.ensures.items
      c.loop-root.invariant.placed c.number_root-child.ensures.placed;
}
