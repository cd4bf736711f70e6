use Rattle.std.proofs.Common.{[], ◌∷◌}
use Rattle.req_table.specs.declared.Item.TheVariants.{End}
use Rattle.expand_work.specs.Work.{SentToAll}
use Rattle.expand_work.proofs.send.send_ends.Given as goal

abbrev pub invariant-loop-to : goal.invariant-loop-to
invariant-loop-to g l = SentToAll l.initial.port l.port l.to (λ k. End l.initial.port.number l.level ∷ []) (λ k. 1)
