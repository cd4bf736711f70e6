-- The options of an empty command line.
use Rattle.std.specs.Prelude.{◌≡◌, false, None, []}
use Rattle.net_names.specs.declared.order.Match.TheVariants.{Name}
use Rattle.report_text.specs.declared.difference.Difference.TheVariants.{Least}
use Rattle.command_line.specs.declared.options.Options.{Options}
use Rattle.command_line.specs.declared.options.OrderChoice.TheVariants.{Auto}
use Rattle.report_text.specs.declared.pair_filter.PairFilter.TheVariants.{All}
use Rattle.command_line.specs.declared.options.Texts.TheVariants.{Input}

-- paired by name, in an order that is found, all pairs, no condition, no pairs of other names, 4 workers, the most
-- nodes that a store may have and that 4 GiB of memory hold, no end by the clock, no sizes, a report and no order,
-- lines and no JSON, nothing more than faults on standard error, both texts on standard input, nothing to explain,
-- assignments as usual, no VCD, no causes, and least differences
pub record AreDefaults (o : Options) : Type 0 where
  pub matching : o.matching ≡ Name
  pub order : o.order ≡ Auto
  pub picks : o.picks ≡ All
  pub given : o.given ≡ None
  pub pairs : o.pairs ≡ None
  pub workers : o.workers ≡ 4
  pub limit : o.limit ≡ 4294967295
  pub memory : o.memory ≡ 4294967296
  pub seconds : o.seconds ≡ None
  pub sizes : o.sizes ≡ false
  pub print_order : o.print_order ≡ false
  pub json : o.json ≡ false
  pub verbose : o.verbose ≡ false
  pub texts : o.texts ≡ Input
  pub explain : o.explain.items ≡ []
  pub assignment : o.assignment ≡ None
  pub vcd : o.vcd ≡ None
  pub causes : o.causes ≡ false
  pub difference : o.difference ≡ Least
