use Rattle.std.proofs.Common.{◌≡◌, ◌++◌, drop}
use Rattle.net_names.specs.OrderText.{order_text}
use Rattle.net_names.proofs.order_file.order_text.Given as goal

-- the lines of the names that remain complete the text
abbrev pub invariant-loop-place : goal.invariant-loop-place
invariant-loop-place l = l.text.items ++ order_text (drop l.place l.names) ≡ order_text l.names
