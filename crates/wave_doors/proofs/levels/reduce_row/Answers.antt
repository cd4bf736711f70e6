use Rattle.std.proofs.Common.{rules, ◌≡◌, ℕ, sym, subst}
use Rattle.req_table.specs.declared.Record.{Record}
use Rattle.std.specs.Prelude.{Err}
use Rattle.expand_work.specs.declared.fault.WaveFault.TheVariants.{OutOfMemory}
use Rattle.reduce_up.specs.Reducing.{IsRowFault, ReducesRow, NotesAnswer}
use Rattle.reduce_up.proofs.Reduction.{record_kept, row_fault, row_given_up}
use Rattle.wave_doors.proofs.Reduction.{member, ready_more, row_stopped, row_next}
use Rattle.wave_doors.proofs.levels.reduce_row.Goals as goal

pub reduce_record-requires-clause-record_at : goal.reduce_record-requires-clause-record_at
reduce_record-requires-clause-record_at c =
    let r : Record = c.entry-item.result in
    record_kept c.args.store.now c.loop-entry.store c.requires.held c.loop-entry.invariant.adds.keeps c.args.level r
    (c.requires.row.records r (member c.args.row.now c.loop-entry.entry-index r c.loop-entry-test.true c.entry-item.is))

pub reduce_record-requires-clause-low_ready : goal.reduce_record-requires-clause-low_ready
reduce_record-requires-clause-low_ready c =
    let r : Record = c.entry-item.result in
    ready_more c.args.results.now c.loop-entry.results c.loop-entry.invariant.more r.low
    (c.requires.row.low_ready r (member c.args.row.now c.loop-entry.entry-index r c.loop-entry-test.true c.entry-item.is))

pub reduce_record-requires-clause-high_ready : goal.reduce_record-requires-clause-high_ready
reduce_record-requires-clause-high_ready c =
    let r : Record = c.entry-item.result in
    ready_more c.args.results.now c.loop-entry.results c.loop-entry.invariant.more r.high
    (c.requires.row.high_ready r (member c.args.row.now c.loop-entry.entry-index r c.loop-entry-test.true c.entry-item.is))

pub returns-in-Err : goal.returns-in-Err
returns-in-Err c =
    let i : ℕ = c.loop-entry.entry-index in
    let r : Record = c.entry-item.result in
    let in_row = member c.args.row.now i r c.loop-entry-test.true c.entry-item.is in
    row_given_up c.args.store.now c.args.results.now c.args.level c.args.row.now i c.reduce_record.new.store c.loop-entry.results c.from.result
    (row_stopped c.args.store.now c.args.results.now c.args.level c.args.row.now i c.loop-entry.store c.loop-entry.results c.reduce_record.new.store r
    c.requires.held c.requires.row in_row c.loop-entry.invariant c.reduce_record.ensures.sound c.reduce_record.ensures.adds)
    (subst (IsRowFault c.reduce_record.new.store c.args.level c.args.row.now) (sym c.from.ensures)
    (row_fault c.reduce_record.new.store c.args.level c.args.row.now r c.in-Err.fault in_row c.in-Err.ensures.fault))

pub returns-then-is_err : goal.returns-then-is_err
returns-then-is_err c =
    let i : ℕ = c.loop-entry.entry-index in
    let r : Record = c.entry-item.result in
    let same : c.note.new.self ≡ c.loop-entry.results = search rules in
    subst (ReducesRow c.args.store.now c.args.results.now c.args.level c.args.row.now (Err OutOfMemory) c.reduce_record.new.store) (sym same)
    (row_given_up c.args.store.now c.args.results.now c.args.level c.args.row.now i c.reduce_record.new.store c.loop-entry.results OutOfMemory
    (row_stopped c.args.store.now c.args.results.now c.args.level c.args.row.now i c.loop-entry.store c.loop-entry.results c.reduce_record.new.store r
    c.requires.held c.requires.row (member c.args.row.now i r c.loop-entry-test.true c.entry-item.is) c.loop-entry.invariant c.reduce_record.ensures.sound c.reduce_record.ensures.adds) tt)

pub loop-entry-preserved : goal.loop-entry-preserved
loop-entry-preserved c =
    let r : Record = c.entry-item.result in
    let notes : NotesAnswer c.loop-entry.results r.key c.in-Ok.answer c.note.new.self = search rules in
    row_next c.args.store.now c.args.results.now c.args.level c.args.row.now c.loop-entry.entry-index c.loop-entry.store c.loop-entry.results c.reduce_record.new.store r c.in-Ok.answer c.note.new.self
    c.requires.held c.requires.row c.loop-entry-test.true c.entry-item.is c.loop-entry.invariant c.reduce_record.ensures.sound c.reduce_record.ensures.adds
    c.in-Ok.ensures.answer notes
