-- Pairs that are judged one by one: which are equal inside, and the faults of judging them.
use Rattle.std.specs.Prelude.{◌≡◌, ◌⊎◌, Bool, List}
use Rattle.net_bench.specs.Circuit.{circuit}
use Rattle.net_order.specs.Order.{NamingModel}
use Rattle.compare_built.specs.PairSelection.{HasUnknown}
use Rattle.compare_built.specs.declared.fault.CheckFault.{CheckFault}
use Rattle.compare_built.specs.declared.fault.CheckFault.TheVariants.{Only}
use Rattle.compare_built.specs.declared.task.Task.{Task}
use Rattle.pair_facts.specs.declared.facts.PairFacts.{PairFacts}
use Rattle.cone_check.specs.ConeRounds.{EndsPairs}
use Rattle.cone_check.specs.KnownPairs.{AreEqualFlags}

-- a flag is true only of a pair that is equal inside
abbrev pub AreEqualIf : {H : Type 0} → Task H → NamingModel → PairFacts → List Bool → Type 0
AreEqualIf task p facts equal = AreEqualFlags task p facts.subjects.items equal

-- a fault that ends a comparison that judges pairs: a name of the filter is unknown, or memory was refused
abbrev pub EndsComparison : {H : Type 0} → Task H → CheckFault → Type 0
EndsComparison task fault = ((fault ≡ Only) × HasUnknown (circuit task.first.now) task.settings.now.picked) ⊎ EndsPairs fault
