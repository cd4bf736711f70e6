use Rattle.net_merge.proofs.SignalValues.{complementary_functions, equal_functions}
use Rattle.net_merge.proofs.laws.same_literal.Goals as goal

pub returns : goal.returns
returns c = record { equal = equal_functions; complementary = complementary_functions }
