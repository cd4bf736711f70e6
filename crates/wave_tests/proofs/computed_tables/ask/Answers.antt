use Rattle.std.proofs.Common.{sym, subst}
use Rattle.req_table.specs.ComputedTables.{IsRight}
use Rattle.wave_tests.proofs.computed_tables.ask.Goals.{in-OneThread+in_ok-answers-in-OneThread, in-Threads+in_ok-answers-in-Threads, in-Upto+in_ok-answers-in-Upto}
use Rattle.wave_tests.proofs.computed_tables.ask.Goals as goal

pub returns-clause-right : goal.returns-clause-right
returns-clause-right g c =
    elim c.match-way.branch [
      | in-OneThread+in_ok-answers-in-OneThread w ↦ subst (IsRight c.match-way.store) (sym w.computed-is) (subst (λ s. IsRight s w.wave_on_one_thread.new.computed) (sym w.store-is) w.wave_on_one_thread.ensures.right)
      | in-Threads+in_ok-answers-in-Threads w ↦ subst (IsRight c.match-way.store) (sym w.computed-is) (subst (λ s. IsRight s w.wave.new.computed) (sym w.store-is) w.wave.ensures.right)
      | in-Upto+in_ok-answers-in-Upto w ↦ subst (IsRight c.match-way.store) (sym w.computed-is) (subst (λ s. IsRight s w.wave-in-Upto.new.computed) (sym w.store-is) w.wave-in-Upto.ensures.right)
    ]
