use Rattle.std.proofs.Common.{◌≡◌, ℕ, ◌<◌, List, length, get_or}
use denote.Ref.{Bor}
use Rattle.expand_work.specs.WaveParts.{noted_of}
use Rattle.reduce_up.proofs.numbers.all_noted.Given as goal

abbrev pub invariant-loop-owner : goal.invariant-loop-owner
invariant-loop-owner l = record {
  long : length l.left.items ≡ l.owner;
  each : (k : ℕ) (d : Bor (List ℕ)) → k < l.owner → (get_or l.left.items k d).now ≡ noted_of l.input.notes.now.noted k l.sender;
}
