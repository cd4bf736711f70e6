use Rattle.std.proofs.Common.{refl}
use Rattle.compare_built.specs.Conditions.{restricted}
use Rattle.compare_built.proofs.Restricting.{agree_both, agree_where, least_both, least_where}
use Rattle.check_report.proofs.laws.conjunctions.Goals as goal

pub returns : goal.returns
returns c = record {
  equal = λ n holds f g. (agree_both n holds f g, agree_where n holds f g (restricted holds f) (restricted holds g) (λ x len. refl) (λ x len. refl));
  least = λ n holds f g x. (least_both n holds f g x, least_where n holds f g (restricted holds f) (restricted holds g) (λ x len. refl) (λ x len. refl) x);
}
