use Rattle.std.proofs.Common.{rules, ◌+◌, List, length, set, get_or, subst, sym, ap, ◌∙◌, []}
use Rattle.std.proofs.lemmas.List.{length-replicate}
use Rattle.req_table.specs.declared.Key.{Key}
use Rattle.expand_work.specs.WorkerState.{IsWorking}
use Rattle.expand_work.proofs.OwnerRows.{due_all}
use Rattle.expand_work.proofs.Rounds.{keys_held, level_next}
use Rattle.expand_work.proofs.worker.expand_level.Goals as goal

pub expand_keys-requires-clause-keys : goal.expand_keys-requires-clause-keys
expand_keys-requires-clause-keys g c =
    let u = c.args.worker in
    keys_held c.args.context.lanes.now c.args.context.store.now c.args.level u.port.taken u.senders.clock u.tables c.requires.closing.working.sizes c.requires.level c.requires.closing.received

pub expand_keys-requires-clause-asks : goal.expand_keys-requires-clause-asks
expand_keys-requires-clause-asks g c = (
  ap (λ z. length z) c.requires.closing.due ∙ length-replicate (length c.args.context.lanes.now.lanes) [] ∙ sym c.count-workers.ensures.count,
  search rules,
)

pub returns-clause-working : goal.returns-clause-working
returns-clause-working g c =
    let n = length c.args.context.lanes.now.lanes in
    let s = c.args.context.store.now in
    let u = c.args.worker in
    let h = c.requires.closing in
    let sent_level = h.has_sent_level in
    let held = keys_held c.args.context.lanes.now s c.args.level u.port.taken u.senders.clock u.tables h.working.sizes c.requires.level h.received in
    let taken = due_all s h.working.sound n (get_or u.tables c.args.level []) held (record { due = u.due; spare = tt; workers = c.count-workers.result }) c.count-workers.ensures.count h.due
    c.expand_keys.new.row c.expand_keys.new.asks c.in_ok-count.ensures.taken in
    subst (λ (ts : List (List Key)). IsWorking c.args.context.lanes.now s c.args.context.roots.now (c.args.level + 1) (record { port = u.port; senders = record { clock = u.senders.clock; noted = u.senders.noted; spare = tt }; tables = ts; rows = c.put.new.self; due = c.expand_keys.new.asks.due })) (sym c.in_ok-count.ensures.tables)
    (level_next c.args.context.lanes.now s c.args.context.roots.now c.args.level h.before h.working sent_level.sent sent_level.left sent_level.is_sent sent_level.is_left sent_level.kept sent_level.is_kept h.after_sending.port u.port u.senders.clock h.after_sending.tables u.tables c.expand_keys.new.row c.expand_keys.new.asks.due
    c.take-row.new.self c.put.new.self c.requires.level sent_level.stays sent_level.is_ended h.same h.received h.stays h.closed taken.row taken.long taken.due (c.take-row.ensures.rest ∙ ap (λ r. set r c.args.level []) h.rows) c.put.ensures u.senders.noted h.noted _)
