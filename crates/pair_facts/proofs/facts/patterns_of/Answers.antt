use Rattle.std.proofs.Common.{rules}
use Rattle.net_bench.specs.Circuit.{circuit}
use Rattle.compare_built.specs.Facts.{patterns_of}
use Rattle.pair_facts.proofs.Showing.{same_patterns}
use Rattle.pair_facts.proofs.facts.patterns_of.Goals as goal

pub returns : goal.returns
returns c = same_patterns c.of.result (patterns_of (circuit c.args.first.now) (circuit c.args.second.now) c.args.naming.now) (search rules) (search rules)
