use Rattle.std.proofs.Common.{◌≡◌, ◌++◌, ◌-◌, string_bytes}
use Rattle.report_text.specs.Buses.{hex_digits, hex_text}
use Rattle.report_text.proofs.buses.hex_of.Given as goal

-- what is still to be added completes the text
abbrev pub invariant-loop-done : goal.invariant-loop-done
invariant-loop-done l = string_bytes l.text ++ hex_digits l.bus l.at (l.digits - l.done) ≡ hex_text l.bus l.at
