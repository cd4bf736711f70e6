-- How many requests the waves of a comparison reach.
use Rattle.std.specs.Prelude.{◌⊎◌, ℕ, length, Option, Some, IsSomeAnd}
use Rattle.net_bench.specs.Circuit.{Circuit}
use Rattle.net_names.specs.declared.order.Match.{Match}
use Rattle.net_names.specs.declared.order.Order.{Order}
use Rattle.net_order.specs.Order.{NamingModel}
use Rattle.dd_store.specs.Nodes.{Nodes, IsSound}
use Rattle.wave_engine.specs.Bounds.{AreMoreThan}
use Rattle.gate_plan.specs.Asking.{IsWide}
use Rattle.gate_plan.specs.Building.{References, levelled, reference_of}
use Rattle.gate_plan.specs.Conjoining.{conjunctions}
use Rattle.compare_built.specs.Devices.{DeviceTexts}
use Rattle.compare_built.specs.Check.{ArePaired}
use Rattle.compare_built.specs.Comparing.{AreBuilt, references}
use Rattle.compare_built.specs.Conditions.{output_of}
use Rattle.compare_built.specs.Report.{subjects}

-- In some store that has the diagrams of the netlists and of the condition, the wave that restricts the pairs to the
-- condition reaches more than n requests.
pub record IsWideWhere (n : ℕ) (a b c : Circuit) (p : NamingModel) : Type 0 where
  pub store : Nodes
  pub sound : IsSound store
  pub built : References
  pub are_built : AreBuilt a b (Some c) p store built
  pub more : AreMoreThan n store (conjunctions (references built (subjects a b p)) (reference_of built.given (output_of c)))

-- one wave of a comparison reaches more than n requests: one of the build, or the one that restricts the pairs to the
-- condition
abbrev pub IsTooWide : ℕ → Circuit → Circuit → Option Circuit → NamingModel → Type 0
IsTooWide n a b given p = IsWide n (length p.names) (levelled a b given p) ⊎ IsSomeAnd given (λ c. IsWideWhere n a b c p)

-- the devices gave netlists that have a pairing, and one wave of their comparison reaches more than n requests
abbrev pub AreTooWide : DeviceTexts → Match → Order → (n : ℕ) → Type 0
AreTooWide input how order n = (a b : Circuit) × (c : Option Circuit) × (p : NamingModel) × ArePaired input how order a b c p × IsTooWide n a b c p
