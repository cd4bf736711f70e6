use Rattle.std.proofs.Common.{◌≡◌, ◌++◌, List, ℕ, length}
use Rattle.std.specs.Io.KnownBytes.{Appends}
use Rattle.report_text.proofs.write.write_whole.Given as goal

-- the device has the bytes before the rest
abbrev pub invariant-loop-rest : goal.invariant-loop-rest
invariant-loop-rest g l =
    (front : List ℕ) × (l.fn.bytes ≡ front ++ l.rest) × Appends (g.W.Sink.contents l.fn.out) (g.W.Sink.contents l.out) front
    × (g.W.Sink.has_failed l.out ≡ g.W.Sink.has_failed l.fn.out) × (g.W.Sink.has_stopped l.out ≡ g.W.Sink.has_stopped l.fn.out)

abbrev pub decreases-loop-rest : goal.decreases-loop-rest
decreases-loop-rest g l = length l.rest
