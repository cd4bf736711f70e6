use Rattle.std.proofs.Common.{◌≡◌, ◌≢◌, ℕ, List, [], length, map, take}
use Rattle.req_table.specs.declared.packed_child.PackedChild.{PackedChild}
use Rattle.reduce_up.specs.OverParts.{level_over}
use Rattle.reduce_up.proofs.parts.leave_level.Given as goal

abbrev pub invariant-loop-place : goal.invariant-loop-place
invariant-loop-place l = record {
  levels : map (λ (rows : List (List (PackedChild × PackedChild))). length rows) l.parts ≡ map (λ (rows : List (List (PackedChild × PackedChild))). length rows) l.fn.parts;
  left : level_over (take l.place l.parts) l.level ≡ [];
  others : (w : ℕ) → w ≢ l.level → level_over l.parts w ≡ level_over l.fn.parts w;
}
