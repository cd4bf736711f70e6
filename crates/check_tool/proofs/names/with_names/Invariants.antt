use Rattle.std.proofs.Common.{◌≡◌, ◌++◌, string_bytes, take}
use Rattle.check_tool.specs.Helping.{names_text}
use Rattle.check_tool.proofs.names.with_names.Given as goal

-- the names up to here come after the text
abbrev pub invariant-loop-name : goal.invariant-loop-name
invariant-loop-name l = string_bytes l.both ≡ l.text ++ names_text (take l.name-index l.names)
