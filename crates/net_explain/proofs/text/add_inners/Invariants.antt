use Rattle.std.proofs.Common.{◌≡◌, ◌++◌, drop}
use Rattle.net_explain.specs.Text.{inners_text}
use Rattle.net_explain.proofs.text.add_inners.Given as goal

-- the lines of those that remain complete the text
abbrev pub invariant-loop-place : goal.invariant-loop-place
invariant-loop-place l = l.text.items ++ inners_text l.net.names (drop l.place l.inner) ≡ l.fn.text.items ++ inners_text l.net.names l.inner
