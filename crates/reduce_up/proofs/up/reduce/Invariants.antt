use Rattle.std.proofs.Common.{◌≡◌, ◌<◌, ◌≤◌, ℕ, List, length, map}
use Rattle.dd_store.specs.Nodes.{IsSound}
use Rattle.req_table.specs.declared.Key.{Key}
use Rattle.req_table.specs.declared.packed_child.PackedChild.{PackedChild}
use Rattle.reduce_up.specs.OverParts.{level_over, over_parts}
use Rattle.reduce_up.specs.ReductionPhase.{AreReducedBelow, AreCounted, MayReduce}
use Rattle.reduce_up.specs.Waves.{Entry}
use Rattle.reduce_up.proofs.up.reduce.Given as goal

abbrev pub invariant-loop-number : goal.invariant-loop-number
invariant-loop-number g l = record {
  bound : l.end ≤ l.from;
  held : IsSound l.store;
  levels : map (λ (rows : List (List (PackedChild × PackedChild))). length rows) l.parts ≡ map (λ (rows : List (List (PackedChild × PackedChild))). length rows) l.fn.parts;
  answers : length l.up.answers.items ≡ l.fn.store.levels;
  left : (w : ℕ) → w < l.end → level_over l.parts w ≡ level_over l.fn.parts w;
  reduced : (E : List Entry) (T : List (List Key)) → MayReduce l.fn.store E l.from (over_parts l.fn.store.levels l.fn.parts) l.fn.up.answers.items T → AreReducedBelow l.fn.store E T l.end l.store l.up.answers.items;
  counted : (E : List Entry) (T : List (List Key)) → MayReduce l.fn.store E l.from (over_parts l.fn.store.levels l.fn.parts) l.fn.up.answers.items T → AreCounted T l.end l.from l.fn.up.reductions l.up.reductions;
}

abbrev pub decreases-loop-number : goal.decreases-loop-number
decreases-loop-number g l = l.end
