use Rattle.std.proofs.Common.{◌+◌, List, length, take}
use Rattle.dd_store.specs.Nodes.{IsSound}
use Rattle.req_table.specs.declared.Key.{Key}
use Rattle.reduce_up.specs.OverParts.{level_over}
use Rattle.reduce_up.specs.ReductionPhase.{IsReadyAt, IsLevelReduced, AreMore}
use Rattle.reduce_up.proofs.up.reduce_level.Given as goal

abbrev pub invariant-loop-part : goal.invariant-loop-part
invariant-loop-part l = record {
  held : IsSound l.store;
  reduced : (T : List (List Key)) → IsReadyAt l.fn.store T (level_over l.level.parts.now l.level.number) l.level.answers.now l.level.number
      → IsLevelReduced l.fn.store T l.level.number (length (level_over (take l.part-index l.level.parts.now) l.level.number)) l.store l.own;
  counted : AreMore (length (level_over (take l.part-index l.level.parts.now) l.level.number)) l.fn.reductions l.reductions;
}

abbrev pub invariant-loop-place : goal.invariant-loop-place
invariant-loop-place l = record {
  held : IsSound l.store;
  reduced : (T : List (List Key)) → IsReadyAt l.fn.store T (level_over l.level.parts.now l.level.number) l.level.answers.now l.level.number
      → IsLevelReduced l.fn.store T l.level.number (length (level_over (take l.part-index l.level.parts.now) l.level.number) + l.place) l.store l.own;
  counted : AreMore (length (level_over (take l.part-index l.level.parts.now) l.level.number) + l.place) l.fn.reductions l.reductions;
}
