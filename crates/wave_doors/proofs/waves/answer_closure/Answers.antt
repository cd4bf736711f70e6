use Rattle.reduce_up.specs.Reducing.{AddsDescribed}
use Rattle.reduce_up.specs.Waves.{IsWanted}
use Rattle.reduce_up.proofs.Waving.{wave_records, wave_adds, wave_answers, wave_within, wave_refused, wave_noted, wave_given_up, wave_done}
use Rattle.wave_doors.proofs.waves.answer_closure.Goals as goal

pub reduce-requires-clause-records : goal.reduce-requires-clause-records
reduce-requires-clause-records g c κs within =
    wave_records c.args.store.now c.levels.ensures.sound c.requires.closure.0 c.requires.closure.1 c.args.entries.now c.requires.operands c.args.records.now c.requires.closure.2

pub returns-in-Err-clause-wave : goal.returns-in-Err-clause-wave
returns-in-Err-clause-wave g c =
    let adds : AddsDescribed c.args.store.now c.reduce.new.store (IsWanted c.args.store.now c.args.entries.now) =
    wave_adds c.args.store.now c.levels.ensures.sound c.requires.closure.0 c.requires.closure.1 c.args.entries.now c.requires.operands c.args.records.now c.requires.closure.2
    c.reduce.new.store c.reduce.ensures.sound c.reduce.ensures.adds in
    wave_given_up c.args.store.now c.args.entries.now c.args.entries.now c.reduce.new.store c.in-Err.fault c.reduce.ensures.sound adds
    (wave_refused c.args.store.now c.levels.ensures.sound c.requires.closure.0 c.requires.closure.1 c.args.entries.now c.requires.operands c.args.records.now c.requires.closure.2
    c.reduce.new.store c.reduce.ensures.sound c.reduce.ensures.adds c.in-Err.fault c.in-Err.ensures.fault)

pub answers_of-requires : goal.answers_of-requires
answers_of-requires g c =
    wave_noted c.args.store.now c.levels.ensures.sound c.requires.closure.0 c.requires.closure.1 c.args.entries.now c.requires.operands c.args.records.now c.requires.closure.2
    c.reduce.new.store c.in-Ok.results c.in-Ok.ensures.answers

pub returns-in-Ok-answers_of-clause-wave : goal.returns-in-Ok-answers_of-clause-wave
returns-in-Ok-answers_of-clause-wave g c =
    let adds : AddsDescribed c.args.store.now c.reduce.new.store (IsWanted c.args.store.now c.args.entries.now) =
    wave_adds c.args.store.now c.levels.ensures.sound c.requires.closure.0 c.requires.closure.1 c.args.entries.now c.requires.operands c.args.records.now c.requires.closure.2
    c.reduce.new.store c.reduce.ensures.sound c.reduce.ensures.adds in
    wave_done c.args.store.now c.args.entries.now c.args.entries.now c.reduce.new.store c.in-Ok-answers_of.answers c.reduce.ensures.sound adds
    (wave_answers c.args.store.now c.levels.ensures.sound c.requires.closure.0 c.requires.closure.1 c.args.entries.now c.requires.operands c.args.records.now c.requires.closure.2
    c.reduce.new.store c.reduce.ensures.sound c.reduce.ensures.adds c.in-Ok.results c.in-Ok.ensures.answers c.args.entries.now c.requires.operands c.in-Ok-answers_of.answers.items c.in-Ok-answers_of.ensures)
    (wave_within c.args.store.now c.levels.ensures.sound c.requires.closure.0 c.requires.closure.1 c.args.entries.now c.requires.operands c.args.records.now c.requires.closure.2
    c.reduce.new.store c.reduce.ensures.sound c.reduce.ensures.adds c.in-Ok.ensures.within)

pub returns-clause-wave : goal.returns-clause-wave
returns-clause-wave g c =
    let adds : AddsDescribed c.args.store.now c.reduce.new.store (IsWanted c.args.store.now c.args.entries.now) =
    wave_adds c.args.store.now c.levels.ensures.sound c.requires.closure.0 c.requires.closure.1 c.args.entries.now c.requires.operands c.args.records.now c.requires.closure.2
    c.reduce.new.store c.reduce.ensures.sound c.reduce.ensures.adds in
    wave_given_up c.args.store.now c.args.entries.now c.args.entries.now c.reduce.new.store _ c.reduce.ensures.sound adds tt
