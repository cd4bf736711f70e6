use Rattle.std.proofs.Common.{◌-◌, ◌≡◌, ◌<◌, ◌*◌, ◌^◌, ℕ}
use Rattle.std.specs.List.{AllZip}
use Rattle.cone_check.specs.ConeRounds.{IsKnown, IsUndecidedIn, IsDecidedIn}
use Rattle.cone_check.specs.KnownPairs.{AreKept}
use Rattle.cone_check.proofs.rounds.judge_all.Given as goal

abbrev pub invariant-loop-budget : goal.invariant-loop-budget
invariant-loop-budget g l = record {
  power : (k : ℕ) × (l.budget ≡ 16384 * 32 ^ k)
      × AllZip (IsKnown (IsDecidedIn l.context l.limit) (λ s. (j : ℕ) → j < k → IsUndecidedIn l.context (16384 * 32 ^ j) (g.G.Monitor.bound l.monitor) s)) l.subjects l.known.items;
  some : 0 < l.budget;
  kept : AreKept l.fn.known.items l.known.items;
}

abbrev pub decreases-loop-budget : goal.decreases-loop-budget
decreases-loop-budget g l = l.limit - l.budget
