use Rattle.std.proofs.Common.{◌++◌, List, ap, sym, ◌∙◌}
use Rattle.req_table.specs.declared.Item.{Item}
use Rattle.lane_queue.specs.declared.rule.View.{View}
use Rattle.lane_queue.specs.Loads.{items_in, flat}
use Rattle.lane_queue.specs.Rule.{joined}
use Rattle.lane_queue.proofs.Facts.{flat-push}
use Rattle.lane_queue.proofs.settle.read_all.Goals as goal

pub loop-preserved : goal.loop-preserved
loop-preserved g c =
    let load = c.in-Some-read.load in
    let v : View = c.args.root.now.me.view.client in (
      c.in-Some-read.ensures.queue,
      c.in-Some-read.ensures.left ∙ ap (λ (u : View). joined u.terms u.terms.workers u.sent u.taken (u.left ++ items_in load)) c.loop.invariant.1
          ∙ ap (λ (l : List Item). joined v.terms v.terms.workers v.sent v.taken l) (sym (ap flat c.in_ok-push.ensures.items ∙ flat-push c.loop.left.items load)),
      c.loop.invariant.2,
    )
