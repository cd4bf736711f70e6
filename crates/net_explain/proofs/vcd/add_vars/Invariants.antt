use Rattle.std.proofs.Common.{◌≡◌, ◌+◌, ◌++◌, drop}
use Rattle.net_explain.specs.Vcd.{vars_text}
use Rattle.net_explain.proofs.vcd.add_vars.Given as goal

-- the signals that remain complete the text
abbrev pub invariant-loop-place : goal.invariant-loop-place
invariant-loop-place l = l.text.items ++ vars_text (l.number + l.place) (drop l.place l.net.names) ≡ l.fn.text.items ++ vars_text l.number l.net.names
