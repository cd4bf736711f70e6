use Rattle.req_table.proofs.ComputedTables.{right_kept}
use Rattle.wave_tests.proofs.widths.waves_of.Goals as goal

pub loop-preserved : goal.loop-preserved
loop-preserved g c = record {
  known = c.run-again.ensures.known;
  right = right_kept c.run_engine-answer.new.store c.run-again.new.store c.count-count.ensures.sound c.run-again.ensures.keeps c.run_engine-answer.new.engine.held c.run_engine-answer.ensures.right;
}
