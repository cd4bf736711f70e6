use Rattle.std.proofs.Common.{take}
use Rattle.std.specs.List.{AllZip}
use Rattle.req_table.specs.TerminalCase.{terminal_of}
use Rattle.reduce_up.specs.Waves.{IsTakenFrom}
use Rattle.wave_doors.proofs.waves.answers_of.Given as goal

abbrev pub invariant-loop-entry : goal.invariant-loop-entry
invariant-loop-entry l = AllZip (λ e r. IsTakenFrom l.results (terminal_of e.0 e.1 e.2) e r) (take l.entry-index l.entries) l.answers.items
