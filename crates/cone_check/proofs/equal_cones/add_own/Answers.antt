use Rattle.std.proofs.Common.{◌∙◌, ◌++◌, ◌∷◌, [], ap}
use Rattle.cone_check.proofs.equal_cones.add_own.Goals as goal

pub returns : goal.returns
returns g c = record {
  subjects = c.in_ok-add.ensures.subjects;
  known = c.in_ok-add.ensures.known ∙ ap (λ o. c.args.distinct.now.known.items ++ o ∷ []) c.in_ok-renamed.ensures;
  numbers = c.in_ok-add.ensures.numbers;
}
