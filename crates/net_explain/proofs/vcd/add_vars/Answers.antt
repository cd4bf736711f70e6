use Rattle.std.proofs.Common.{◌∙◌, ◌<◌, [], ap, get_or, length, subst}
use Rattle.net_explain.proofs.Lists.{moved}
use Rattle.net_explain.proofs.Wording.{vars_next}
use Rattle.net_explain.proofs.vcd.add_vars.Goals as goal

pub loop-place-preserved : goal.loop-place-preserved
loop-place-preserved c =
    let low : c.loop-place.place < length c.args.net.now.names = subst (λ k. c.loop-place.place < k) c.count-place-end.ensures.value c.loop-place-test.true in
    moved _ _ _ _ _ _ c.loop-place.invariant
    (vars_next c.args.number c.args.net.now.names c.loop-place.place c.name_of.result.now low (c.name_of.ensures ∙ ap (λ k. get_or c.args.net.now.names k []) c.of.ensures)) c.in_ok-add_var.ensures
