use Rattle.std.proofs.Common.{◌++◌, ◌∙◌, [], List, ap, get_or, length, map, sym, subst, All, arith}
use Rattle.req_table.specs.declared.Record.{Record}
use Rattle.req_table.specs.Keys.{IsKey}
use Rattle.req_table.specs.Settled.{key_of}
use Rattle.expand_work.specs.WavePorts.{row_of}
use Rattle.expand_work.specs.WaveParts.{PartsView}
use Rattle.expand_work.specs.OwnerRows.{records_of}
use Rattle.wave_doors.proofs.Merging.{level_more}
use Rattle.wave_doors.proofs.merge.level_records.Goals as goal

pub keys-requires-clause-level : goal.keys-requires-clause-level
keys-requires-clause-level c =
    let same = ap (λ (p : PartsView). length (get_or p.rows c.loop-worker.worker [])) c.notes.ensures in
    let e = c.requires.parts.levels c.loop-worker.worker c.loop-worker-test.true in
    let l = c.requires.level in
    omega (arith, same, e, l)

pub split_all-requires : goal.split_all-requires
split_all-requires c =
    let read = c.in-Some.ensures ∙ ap (λ (p : PartsView). map key_of (row_of p.rows c.loop-worker.worker c.args.level)) c.notes.ensures in
    subst (All (IsKey c.args.store.now)) (sym read) (c.requires.parts.keys c.loop-worker.worker c.args.level c.loop-worker-test.true c.requires.level)

pub loop-worker-preserved : goal.loop-worker-preserved
loop-worker-preserved c =
    let read = c.in-Some.ensures ∙ ap (λ (p : PartsView). map key_of (row_of p.rows c.loop-worker.worker c.args.level)) c.notes.ensures in
    level_more c.args.parts.now.rows c.loop-worker.worker c.args.level c.loop-worker.records.items c.extend_from_slice.new.self.items c.in_ok-more.more.items c.loop-worker.invariant
    (c.in_ok-extend_from_slice.ensures.items ∙ ap (λ (rs : List Record). c.loop-worker.records.items ++ rs) c.as_slice.ensures.value)
    (c.in_ok-more.ensures ∙ ap (records_of c.args.store.now) read ∙ c.requires.parts.records c.loop-worker.worker c.args.level c.loop-worker-test.true c.requires.level)
