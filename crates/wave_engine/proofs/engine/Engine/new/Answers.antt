use Rattle.std.proofs.Common.{ap, refl}
use Rattle.req_table.specs.ComputedTables.{ComputedView}
use Rattle.wave_engine.proofs.Held.{none_held}
use Rattle.wave_engine.proofs.engine.Engine.new.Goals as goal

pub returns-clause-counts_all : goal.returns-clause-counts_all
returns-clause-counts_all g c = λ S. none_held S _ (ap (λ (m : ComputedView). m.pairs) c.in_ok-computed.ensures.empty) refl
