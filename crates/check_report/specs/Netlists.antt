-- The task of comparing netlists that were read.
use Rattle.std.specs.Prelude.{◌≡◌, Option, option_map}
use Rattle.net_bench.specs.Circuit.{Net, circuit}
use Rattle.net_order.specs.Order.{condition}
use Rattle.compare_built.specs.declared.settings.Settings.{Settings}
use Rattle.compare_built.specs.declared.task.Task.{Task}

-- The task compares these netlists, with this condition if there is one, by these settings.
pub record IsTaskOf {H : Type 0} (first second : Net) (given : Option Net) (s : Settings) (task : Task H) : Type 0 where
  pub first_net : task.first.now ≡ first
  pub second_net : task.second.now ≡ second
  pub given_net : condition task.given ≡ option_map circuit given
  pub settings : task.settings.now ≡ s
