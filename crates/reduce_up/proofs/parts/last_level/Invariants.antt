use Rattle.std.proofs.Common.{ℕ, ◌≤◌, take}
use Rattle.req_table.specs.Places.{IsLastLevel}
use Rattle.reduce_up.specs.OverParts.{over_parts}
use Rattle.reduce_up.proofs.parts.last_level.Given as goal

abbrev pub invariant-loop-part : goal.invariant-loop-part
invariant-loop-part l = (n : ℕ) → l.end ≤ n → IsLastLevel (over_parts n (take l.part-index l.parts)) l.end l.last
