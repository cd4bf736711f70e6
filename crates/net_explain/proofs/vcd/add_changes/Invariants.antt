use Rattle.std.proofs.Common.{◌≡◌, ◌+◌, ◌++◌, drop}
use Rattle.net_explain.specs.Vcd.{changes_text}
use Rattle.net_explain.proofs.vcd.add_changes.Given as goal

-- the values that remain complete the text
abbrev pub invariant-loop-place : goal.invariant-loop-place
invariant-loop-place l = l.text.items ++ changes_text (l.number + l.place) (drop l.place l.bits) ≡ l.fn.text.items ++ changes_text l.number l.bits
