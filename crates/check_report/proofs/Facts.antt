-- The faults that can be found before pairs are judged.
use Rattle.std.proofs.Common.{◌≡◌, ◌⊎◌, inl, inr, sym, subst}
use Rattle.net_bench.specs.Circuit.{circuit}
use Rattle.compare_built.specs.PairSelection.{HasUnknown}
use Rattle.compare_built.specs.declared.fault.CheckFault.{CheckFault}
use Rattle.compare_built.specs.declared.fault.CheckFault.TheVariants.{Only, OutOfMemory}
use Rattle.compare_built.specs.declared.task.Task.{Task}
use Rattle.cone_check.specs.ConeRounds.{EndsPairs}
use Rattle.check_report.specs.Pairs.{EndsComparison}

-- a name is unknown, or memory was refused
pub no_facts : {H : Type 0} (task : Task H) (fault : CheckFault) → (fault ≡ Only) ⊎ (fault ≡ OutOfMemory) → (fault ≡ Only → HasUnknown (circuit task.first.now) task.settings.now.picked) → EndsComparison task fault
no_facts task fault (inl only) unknown = inl (only, unknown only)
no_facts task fault (inr memory) unknown = inr (subst EndsPairs (sym memory) (tt, tt))
