use Rattle.std.proofs.Common.{◌∙◌, ap, sym}
use Rattle.dd_store.specs.Graph.{top}
use Rattle.req_table.proofs.InOrder.{level_of_first}
use Rattle.req_table.proofs.requests.level_of.Goals as goal

pub returns : goal.returns
returns c =
    c.top.ensures ∙ ap (top c.args.store.now.levels) c.f.ensures.value
    ∙ sym (level_of_first c.args.store.now c.args.key c.f.ensures.request)
