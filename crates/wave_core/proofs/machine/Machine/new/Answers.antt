use Rattle.std.proofs.Common.{rules, ◌≤◌, ℕ, subst, sym}
use Rattle.wave_core.proofs.Starts.{starts_kept}
use Rattle.wave_core.proofs.machine.Machine.new.Goals as goal

pub invariant_of-result : goal.invariant_of-result
invariant_of-result c =
    let small = subst (λ (n : ℕ). n ≤ 4096) (sym c.levels-levels.ensures.value) c.levels-levels.ensures.sound.few_levels in
    starts_kept c.args.workers c.levels-levels.result c.in_ok-many.field-0.items c.in_ok-vec.field-0.items c.in_ok-distribute_roots.field-0.items c.in_ok-many-2.field-0.items c.in_ok-many-3.field-0.items c.in_ok-vec-2.field-0.items c.in_ok-tables.field-0.items c.in_ok-many-4.field-0.items c.in_ok-vec-3.field-0.items
    c.requires.few small c.in_ok-many.ensures (search rules) c.in_ok-distribute_roots.ensures.size c.in_ok-many-2.ensures c.in_ok-many-3.ensures (search rules) c.in_ok-tables.ensures c.in_ok-many-4.ensures (search rules)
