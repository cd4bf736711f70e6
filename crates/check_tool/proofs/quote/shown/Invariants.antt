use Rattle.std.proofs.Common.{◌≡◌, map, string_bytes, take}
use Rattle.check_tool.specs.Quoting.{shown}
use Rattle.check_tool.proofs.quote.shown.Given as goal

abbrev pub invariant-loop-byte : goal.invariant-loop-byte
invariant-loop-byte l = string_bytes l.text ≡ map shown (take l.byte-index l.bytes)
