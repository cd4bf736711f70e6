use Rattle.std.proofs.Common.{take}
use Rattle.std.specs.Prelude.{flat_map}
use Rattle.std.specs.Io.KnownBytes.{Appends}
use Rattle.check_tool.proofs.say.say_each.Given as goal

-- the device has taken the parts up to here
abbrev pub invariant-loop-part : goal.invariant-loop-part
invariant-loop-part g l = Appends (g.E.Sink.contents l.fn.errors) (g.E.Sink.contents l.errors) (flat_map (λ p. p.now) (take l.part-index l.parts))
