use Rattle.std.proofs.Common.{get_or, refl, subst, zero-add}
use Rattle.std.specs.Fork.{ChangesAt}
use Rattle.thread_map.proofs.forks.fork_each.Goals as goal

pub returns : goal.returns
returns g c i d lt =
    let at = c.fork_from.ensures.each i d lt in
    (refl, subst (λ k. ChangesAt g.F.Fn c.args.f.now k (get_or c.args.s.now i d) (get_or c.fork_from.new.s i d)) (zero-add i) at)
