use denote.Param.Send.{sendable}
use Rattle.std.proofs.Crossing.{crosses, frees}
use Rattle.dd_store.proofs.store.Store.TheSendSync as store
use Rattle.expand_work.proofs.Sent.{notes_sync}
use Rattle.reduce_up.proofs.numbers.number_tasks.Goals as goal

pub fork_if_much-requires-sync-F : goal.fork_if_much-requires-sync-F
fork_if_much-requires-sync-F g c κs within = search (sendable, notes_sync, store.the_sync, crosses, frees) depth 60 fits 20000
