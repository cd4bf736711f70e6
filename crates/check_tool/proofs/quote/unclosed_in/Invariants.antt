use Rattle.std.proofs.Common.{◌≡◌, ◌≤◌, ◌+◌, take}
use Rattle.std.specs.Prelude.{fold}
use Rattle.check_tool.specs.Quoting.{read_byte, unread}
use Rattle.check_tool.proofs.quote.unclosed_in.Given as goal

abbrev pub invariant-loop-place : goal.invariant-loop-place
invariant-loop-place l = record {
  read : l.at ≡ fold read_byte unread (take l.place l.text);
  line : l.at.line ≤ l.place + 1;
}
