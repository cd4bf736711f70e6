use Rattle.pair_facts.proofs.SerpentineOrder.{shares_long}
use Rattle.check_report.proofs.Shares.{one_dealing, shares_within}
use Rattle.check_report.proofs.laws.shares.Goals as goal

pub returns : goal.returns
returns c = record {
  each = λ a b pairs n shares some are. (shares_long a b pairs n shares are, shares_within a b pairs n shares are some);
  same = one_dealing;
}
