use Rattle.std.proofs.Common.{MatchBool, sym, subst}
use Rattle.wave_core.specs.declared.Event.{Event}
use Rattle.wave_core.specs.declared.Event.TheVariants.{Send, End, Take, Expand, Advance, Keep}
use Rattle.wave_core.specs.Step.{IsAllowed}
use Rattle.wave_core.specs.Cores.{core_wave, core_state}
use Rattle.wave_core.proofs.Cores.{core_at, allows_at, taken_fair, own_in_order}
use Rattle.wave_core.proofs.waves.Core.allows.Goals as goal

pub returns-in-Send : goal.returns-in-Send
returns-in-Send c =
    subst (λ (e : Event). MatchBool c.can_send.result (IsAllowed (core_wave c.args.self.now) (core_state c.args.self.now) e) (¬ IsAllowed (core_wave c.args.self.now) (core_state c.args.self.now) e)) (sym c.in-Send.is)
    (allows_at (core_at c.self.inside.store.now c.self.inside.machine c.self.inside.roots.now) c.args.self.now c.self.view_is c.self.invariant.levels (Send c.in-Send.by c.in-Send.to) c.can_send.result c.can_send.ensures)

pub returns-in-End : goal.returns-in-End
returns-in-End c =
    subst (λ (e : Event). MatchBool c.can_end.result (IsAllowed (core_wave c.args.self.now) (core_state c.args.self.now) e) (¬ IsAllowed (core_wave c.args.self.now) (core_state c.args.self.now) e)) (sym c.in-End.is)
    (allows_at (core_at c.self.inside.store.now c.self.inside.machine c.self.inside.roots.now) c.args.self.now c.self.view_is c.self.invariant.levels (End c.in-End.by c.in-End.to) c.can_end.result c.can_end.ensures)

pub returns-in-Take : goal.returns-in-Take
returns-in-Take c =
    subst (λ (e : Event). MatchBool c.can_take.result (IsAllowed (core_wave c.args.self.now) (core_state c.args.self.now) e) (¬ IsAllowed (core_wave c.args.self.now) (core_state c.args.self.now) e)) (sym c.in-Take.is)
    (allows_at (core_at c.self.inside.store.now c.self.inside.machine c.self.inside.roots.now) c.args.self.now c.self.view_is c.self.invariant.levels (Take c.in-Take.by) c.can_take.result c.can_take.ensures)

pub returns-in-Expand : goal.returns-in-Expand
returns-in-Expand c =
    subst (λ (e : Event). MatchBool c.can_expand.result (IsAllowed (core_wave c.args.self.now) (core_state c.args.self.now) e) (¬ IsAllowed (core_wave c.args.self.now) (core_state c.args.self.now) e)) (sym c.in-Expand.is)
    (allows_at (core_at c.self.inside.store.now c.self.inside.machine c.self.inside.roots.now) c.args.self.now c.self.view_is c.self.invariant.levels (Expand c.in-Expand.by) c.can_expand.result c.can_expand.ensures)

pub returns-in-Advance : goal.returns-in-Advance
returns-in-Advance c =
    subst (λ (e : Event). MatchBool c.can_advance.result (IsAllowed (core_wave c.args.self.now) (core_state c.args.self.now) e) (¬ IsAllowed (core_wave c.args.self.now) (core_state c.args.self.now) e)) (sym c.in-Advance.is)
    (allows_at (core_at c.self.inside.store.now c.self.inside.machine c.self.inside.roots.now) c.args.self.now c.self.view_is c.self.invariant.levels (Advance c.in-Advance.by) c.can_advance.result c.can_advance.ensures)

pub can_expand-requires : goal.can_expand-requires
can_expand-requires c = record { fair = taken_fair c.self.inside.store.now c.self.inside.machine c.self.inside.roots.now c.in-Expand.by c.self.invariant }

pub can_advance-requires : goal.can_advance-requires
can_advance-requires c = record { fair = taken_fair c.self.inside.store.now c.self.inside.machine c.self.inside.roots.now c.in-Advance.by c.self.invariant }

pub returns-in-Keep : goal.returns-in-Keep
returns-in-Keep c =
    subst (λ (e : Event). MatchBool c.can_keep.result (IsAllowed (core_wave c.args.self.now) (core_state c.args.self.now) e) (¬ IsAllowed (core_wave c.args.self.now) (core_state c.args.self.now) e)) (sym c.in-Keep.is)
    (allows_at (core_at c.self.inside.store.now c.self.inside.machine c.self.inside.roots.now) c.args.self.now c.self.view_is c.self.invariant.levels (Keep c.in-Keep.by) c.can_keep.result c.can_keep.ensures)

pub can_keep-requires : goal.can_keep-requires
can_keep-requires c = own_in_order c.self.inside.store.now c.self.inside.machine c.self.inside.roots.now c.in-Keep.by c.self.invariant
