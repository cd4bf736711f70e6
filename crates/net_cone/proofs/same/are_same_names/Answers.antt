use Rattle.std.proofs.Common.{◌∙◌, [], arith, sym}
use Rattle.std.proofs.lemmas.List.{ext_get_or}
use Rattle.net_cone.proofs.same.are_same_names.Goals as goal

pub returns : goal.returns
returns c =
    let end = c.loop-number-test.false in
    let each = c.loop-number.invariant in
    let first = each.first in
    λ _. ext_get_or [] c.args.one.now.names c.args.other.now.names (sym each.first ∙ each.second) (λ k lt. each.same k (omega (arith, lt, end, first)))
