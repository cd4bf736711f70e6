use Rattle.std.proofs.Common.{take}
use Rattle.expand_work.proofs.Holding.{Holding}
use Rattle.expand_work.proofs.receive.keep_all.Given as goal

abbrev pub invariant-loop-ask : goal.invariant-loop-ask
invariant-loop-ask l = Holding l.initial.port l.port (take l.ask-index l.asks)
