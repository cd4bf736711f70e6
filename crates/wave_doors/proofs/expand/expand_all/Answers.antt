use Rattle.std.proofs.Common.{subst}
use Rattle.req_table.specs.Keys.{wave_of}
use Rattle.req_table.specs.Settled.{level_of_rows}
use Rattle.req_table.specs.Tables.{row_at}
use Rattle.expand_work.specs.WavePorts.{row_of}
use Rattle.expand_work.specs.WaveParts.{AreParts, AreSettled}
use Rattle.reduce_up.proofs.Numbering.{closure_same}
use Rattle.wave_doors.proofs.expand.expand_all.Goals as goal

pub merge_rows-requires-clause-parts : goal.merge_rows-requires-clause-parts
merge_rows-requires-clause-parts g c = subst (λ n. AreParts c.args.store.now n c.args.roots.now c.in_ok-parts.parts) c.new.ensures c.in_ok-parts.ensures.parts

pub returns-clause-ports : goal.returns-clause-ports
returns-clause-ports g c = (subst (λ n. AreSettled c.args.store.now n c.args.roots.now c.in_ok-parts.parts c.in_ok-parts.ports.items) c.new.ensures c.in_ok-parts.ensures.settled).numbered

pub returns-clause-settled : goal.returns-clause-settled
returns-clause-settled g c = record {
  rows = row_of c.in_ok-parts.parts.rows;
  settled = (subst (λ n. AreSettled c.args.store.now n c.args.roots.now c.in_ok-parts.parts c.in_ok-parts.ports.items) c.new.ensures c.in_ok-parts.ensures.settled).settled;
  merged = c.in_ok-records.ensures.rows;
}

pub returns-clause-closure : goal.returns-clause-closure
returns-clause-closure g c =
    let w = c.args.workers in
    let parts : AreParts c.args.store.now w c.args.roots.now c.in_ok-parts.parts = subst (λ n. AreParts c.args.store.now n c.args.roots.now c.in_ok-parts.parts) c.new.ensures c.in_ok-parts.ensures.parts in
    closure_same (wave_of c.args.store.now w) (level_of_rows w (row_of c.in_ok-parts.parts.rows)) (row_at c.in_ok-records.records) c.in_ok-records.ensures.rows c.args.roots.now parts.closure

pub returns-clause-put : goal.returns-clause-put
returns-clause-put g c = (subst (λ n. AreSettled c.args.store.now n c.args.roots.now c.in_ok-parts.parts c.in_ok-parts.ports.items) c.new.ensures c.in_ok-parts.ensures.settled).put
