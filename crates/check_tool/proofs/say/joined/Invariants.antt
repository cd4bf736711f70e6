use Rattle.std.proofs.Common.{◌≡◌, string_bytes, take}
use Rattle.std.specs.Prelude.{flat_map}
use Rattle.check_tool.proofs.say.joined.Given as goal

-- the parts up to here are joined
abbrev pub invariant-loop-part : goal.invariant-loop-part
invariant-loop-part l = string_bytes l.text ≡ flat_map (λ p. p.now) (take l.part-index l.parts)
