use Rattle.net_explain.proofs.Exactly.{is_inner_of, is_listed}
use Rattle.net_explain.proofs.laws.exact.Goals as goal

pub returns : goal.returns
returns c a b v w i first second = (is_inner_of a b v w i first second, is_listed a b v w i first second)
