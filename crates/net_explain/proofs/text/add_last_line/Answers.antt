use Rattle.std.proofs.Common.{◌≡◌, ◌∙◌, ◌++◌, ◌<◌, [], ap, get_or, length, subst, sym}
use Rattle.std.specs.Prelude.{OnOk}
use Rattle.net_explain.specs.declared.differing.InnerSignal.{InnerSignal}
use Rattle.net_explain.specs.Text.{last_line_text}
use Rattle.net_explain.proofs.Wording.{at_first, some_inner}
use Rattle.net_explain.proofs.text.add_last_line.Goals as goal

pub returns : goal.returns
returns c =
    let low : 0 < length c.args.inner.now = some_inner c.args.inner.now c.if-is_empty.ensures in
    subst (λ z. OnOk c.add_outside_line.result (c.add_outside_line.new.text.items ≡ c.args.text.now.items ++ z))
    (sym (ap (last_line_text c.args.net.now.names c.args.inner.now) c.in-Some.is ∙
    at_first c.args.net.now.names c.args.inner.now c.index-inner-0.result c.name_of.result.now (record { 0 = c.in-Some.first; 1 = c.in-Some.second }) low c.index-inner-0.is
    (c.name_of.ensures ∙ ap (λ (i : InnerSignal). get_or c.args.net.now.names i.first []) (sym c.index-inner-0.is))))
    c.add_outside_line.ensures
