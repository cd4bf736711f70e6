use Rattle.std.proofs.Common.{◌≡◌, length, sym, subst, rules}
use Rattle.std.specs.Prelude.{IfOk}
use Rattle.std.specs.Vec.{with_items}
use Rattle.std.proofs.lemmas.List.{with_items_is}
use Rattle.reduce_up.specs.Steps.{AreRead, AreAllRead}
use Rattle.reduce_up.proofs.reads.read_level.Goals as goal

pub join_reads-requires : goal.join_reads-requires
join_reads-requires g c = subst (AreAllRead c.args.level.now) (sym (with_items_is c.in_ok-tasks.tasks c.read_all.new.tasks (search rules))) c.read_all.ensures

pub returns : goal.returns
returns g c =
    let stored = with_items_is c.in_ok-tasks.tasks c.read_all.new.tasks (search rules) in
    let long : length (with_items c.in_ok-tasks.tasks c.read_all.new.tasks).items ≡ length c.args.level.now.parts.now = search rules in
    subst (λ z. IfOk c.join_reads.result (λ r. AreRead c.args.level.now z r.parts.items r.origins.items)) long c.join_reads.ensures
