use Rattle.check_report.proofs.Refusing.{from_each, from_list, to_each, to_list}
use Rattle.check_report.proofs.laws.refusals.Goals as goal

pub returns : goal.returns
returns c = record {
  comparison = λ input s bound fault. (to_each input s bound fault, from_each input s bound fault);
  listing = λ input s bound fault. (to_list input s bound fault, from_list input s bound fault);
}
