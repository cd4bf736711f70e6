use Rattle.std.proofs.Common.{◌≡◌, ◌<◌, get_or, sym, subst, arith}
use Rattle.req_table.specs.Lanes.{IsClosed}
use Rattle.wave_core.specs.MachineView.{MachineView, IsConsistent, list_of, wave_of_view}
use Rattle.wave_core.proofs.Grid.{got}
use Rattle.wave_core.proofs.DueLists.{closed_of_ended, open_of_ended}
use Rattle.wave_core.proofs.machine.Machine.closed_level.Goals as goal

pub returns-then-level-self-clause-at_closed_level : goal.returns-then-level-self-clause-at_closed_level
returns-then-level-self-clause-at_closed_level c =
    let view = c.self.view_is in
    let bi : c.args.by < c.self.inside.workers = omega arith in
    let level = c.index-level.result.now in
    let level-is : level ≡ get_or c.args.self.now.at c.args.by 0 =
    subst (λ (u : MachineView). level ≡ get_or u.at c.args.by 0) view (sym (got c.self.inside.at.items c.args.by level 0 (subst (λ n. c.args.by < n) (sym c.self.invariant.shape.at) bi) c.index-level.ensures)) in
    let past : ¬ (level < c.self.inside.levels) = λ lt. omega arith in
    λ a. past (subst (λ (u : MachineView). level < u.levels) (sym view) (subst (λ n. n < c.args.self.now.levels) (sym level-is) a.1))

pub returns-then-not-is_ended-clause-at_closed_level : goal.returns-then-not-is_ended-clause-at_closed_level
returns-then-not-is_ended-clause-at_closed_level c =
    let v = c.args.self.now in
    let view = c.self.view_is in
    let h = subst (λ (u : MachineView). IsConsistent u) view c.self.invariant in
    let bi : c.args.by < c.self.inside.workers = omega arith in
    let level = c.index-level.result.now in
    let level-is : level ≡ get_or v.at c.args.by 0 =
    subst (λ (u : MachineView). level ≡ get_or u.at c.args.by 0) view (sym (got c.self.inside.at.items c.args.by level 0 (subst (λ n. c.args.by < n) (sym c.self.invariant.shape.at) bi) c.index-level.ensures)) in
    let bb = subst (λ (u : MachineView). c.args.by < u.workers) view bi in
    let e = c.if-not-is_ended.ensures in
    λ a. open_of_ended c.args.store.now v h c.args.by level bb (c.requires.fair bb) e.0 e.1 e.2
    (subst (λ n. IsClosed (wave_of_view c.args.store.now v).scope n (list_of v.taken c.args.by)) (sym level-is) a.2)

pub returns-clause-at_closed_level : goal.returns-clause-at_closed_level
returns-clause-at_closed_level c =
    let v = c.args.self.now in
    let view = c.self.view_is in
    let h = subst (λ (u : MachineView). IsConsistent u) view c.self.invariant in
    let bi : c.args.by < c.self.inside.workers = omega arith in
    let bb = subst (λ (u : MachineView). c.args.by < u.workers) view bi in
    let level = c.index-level.result.now in
    let li : level < c.self.inside.levels = omega arith in
    let level-is : level ≡ get_or v.at c.args.by 0 =
    subst (λ (u : MachineView). level ≡ get_or u.at c.args.by 0) view (sym (got c.self.inside.at.items c.args.by level 0 (subst (λ n. c.args.by < n) (sym c.self.invariant.shape.at) bi) c.index-level.ensures)) in
    let lb = subst (λ n. n < v.levels) level-is (subst (λ (u : MachineView). level < u.levels) view li) in
    let closed = closed_of_ended c.args.store.now v h c.args.by level bb (c.requires.fair bb) c.if-not-is_ended.ensures in
    (level-is, (bb, lb, subst (λ n. IsClosed (wave_of_view c.args.store.now v).scope n (list_of v.taken c.args.by)) level-is closed))
