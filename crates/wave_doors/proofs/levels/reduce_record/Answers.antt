use Rattle.std.proofs.Common.{true, false}
use Rattle.reduce_up.specs.Reducing.{IsAnswerAt}
use Rattle.reduce_up.proofs.Reduction.{resolved, record_done}
use Rattle.reduce_up.proofs.Missing.{record_fault}
use Rattle.wave_doors.proofs.levels.reduce_record.Goals as goal

pub make-requires-clause-lo_in_store : goal.make-requires-clause-lo_in_store
make-requires-clause-lo_in_store c =
    let a : IsAnswerAt c.args.store.now c.args.level c.args.entry.key false c.resolve-low.result = resolved c.args.store.now c.args.level c.args.entry.key false c.args.entry.low c.args.results.now c.resolve-low.result c.requires.record_at.low c.requires.answers c.resolve-low.ensures in
    a.has

pub make-requires-clause-above_lo : goal.make-requires-clause-above_lo
make-requires-clause-above_lo c =
    let a : IsAnswerAt c.args.store.now c.args.level c.args.entry.key false c.resolve-low.result = resolved c.args.store.now c.args.level c.args.entry.key false c.args.entry.low c.args.results.now c.resolve-low.result c.requires.record_at.low c.requires.answers c.resolve-low.ensures in
    a.below

pub make-requires-clause-hi_in_store : goal.make-requires-clause-hi_in_store
make-requires-clause-hi_in_store c =
    let a : IsAnswerAt c.args.store.now c.args.level c.args.entry.key true c.resolve-high.result = resolved c.args.store.now c.args.level c.args.entry.key true c.args.entry.high c.args.results.now c.resolve-high.result c.requires.record_at.high c.requires.answers c.resolve-high.ensures in
    a.has

pub make-requires-clause-above_hi : goal.make-requires-clause-above_hi
make-requires-clause-above_hi c =
    let a : IsAnswerAt c.args.store.now c.args.level c.args.entry.key true c.resolve-high.result = resolved c.args.store.now c.args.level c.args.entry.key true c.args.entry.high c.args.results.now c.resolve-high.result c.requires.record_at.high c.requires.answers c.resolve-high.ensures in
    a.below

pub returns-clause-answer : goal.returns-clause-answer
returns-clause-answer c =
    (record_done c.args.store.now c.make.new.self c.args.level c.args.entry c.resolve-low.result c.resolve-high.result c.make.result c.requires.held c.make.ensures.sound c.requires.record_at.key
    (resolved c.args.store.now c.args.level c.args.entry.key false c.args.entry.low c.args.results.now c.resolve-low.result c.requires.record_at.low c.requires.answers c.resolve-low.ensures)
    (resolved c.args.store.now c.args.level c.args.entry.key true c.args.entry.high c.args.results.now c.resolve-high.result c.requires.record_at.high c.requires.answers c.resolve-high.ensures)
    c.make.ensures.made c.make.ensures.refused).0

pub returns-clause-adds : goal.returns-clause-adds
returns-clause-adds c =
    (record_done c.args.store.now c.make.new.self c.args.level c.args.entry c.resolve-low.result c.resolve-high.result c.make.result c.requires.held c.make.ensures.sound c.requires.record_at.key
    (resolved c.args.store.now c.args.level c.args.entry.key false c.args.entry.low c.args.results.now c.resolve-low.result c.requires.record_at.low c.requires.answers c.resolve-low.ensures)
    (resolved c.args.store.now c.args.level c.args.entry.key true c.args.entry.high c.args.results.now c.resolve-high.result c.requires.record_at.high c.requires.answers c.resolve-high.ensures)
    c.make.ensures.made c.make.ensures.refused).1

pub returns-clause-fault : goal.returns-clause-fault
returns-clause-fault c =
    record_fault c.args.store.now c.make.new.self c.args.level c.args.entry.key c.resolve-low.result c.resolve-high.result c.make.result c.requires.held c.requires.record_at.key
    (resolved c.args.store.now c.args.level c.args.entry.key false c.args.entry.low c.args.results.now c.resolve-low.result c.requires.record_at.low c.requires.answers c.resolve-low.ensures)
    (resolved c.args.store.now c.args.level c.args.entry.key true c.args.entry.high c.args.results.now c.resolve-high.result c.requires.record_at.high c.requires.answers c.resolve-high.ensures)
    c.make.ensures.refused c.make.ensures.full
