use Rattle.std.proofs.Common.{◌≡◌, ℕ, ◌<◌, Bool, true, false, sym, subst}
use Rattle.dd_store.specs.declared.reference.Ref.{Ref}
use Rattle.dd_store.specs.Nodes.{cofactor_of}
use Rattle.dd_store.specs.View.{Has}
use Rattle.req_table.specs.Keys.{level_of}
use Rattle.req_table.proofs.ComputedTables.{cofactor_at}
use Rattle.wave_doors.proofs.ComputedTables.{computed_cofactors, computed_cofactor_child}
use Rattle.req_table.proofs.Waved.{bounded, first_of, second_of}
use Rattle.wave_doors.proofs.with_computed.split_with_computed.Goals as goal
use Rattle.wave_doors.proofs.with_computed.split_with_computed.Goals.{After-cofactors-second}

-- these are the cofactors of the key's operands, by a bit
abbrev AreCofactors : After-cofactors-second → Bool → (first second : Ref) → Type 0
AreCofactors c b first second =
    let v = level_of c.args.store.now c.args.key in
    (first ≡ cofactor_of c.args.store.now c.args.key.f v b) × (second ≡ cofactor_of c.args.store.now c.args.key.g v b)

lows : (c : After-cofactors-second) → AreCofactors c false c.cofactors-first.result.0 c.cofactors-second.result.0
lows c = (
  cofactor_at c.args.store.now false c.f.ensures.value c.level_of-level.ensures c.cofactors-first.ensures.low,
  cofactor_at c.args.store.now false c.g.ensures.value c.level_of-level.ensures c.cofactors-second.ensures.low,
)

highs : (c : After-cofactors-second) → AreCofactors c true c.cofactors-first.result.1 c.cofactors-second.result.1
highs c = (
  cofactor_at c.args.store.now true c.f.ensures.value c.level_of-level.ensures c.cofactors-first.ensures.high,
  cofactor_at c.args.store.now true c.g.ensures.value c.level_of-level.ensures c.cofactors-second.ensures.high,
)

pub cofactors-first-requires-clause-level : goal.cofactors-first-requires-clause-level
cofactors-first-requires-clause-level c = subst (λ (v : ℕ). v < c.args.store.now.levels) (sym c.level_of-level.ensures) (bounded c.args.store.now c.levels.ensures.sound c.args.key c.requires.key)

pub cofactors-second-requires-clause-level : goal.cofactors-second-requires-clause-level
cofactors-second-requires-clause-level c = subst (λ (v : ℕ). v < c.args.store.now.levels) (sym c.level_of-level.ensures) (bounded c.args.store.now c.levels.ensures.sound c.args.key c.requires.key)

pub child_with_computed-requires-clause-first : goal.child_with_computed-requires-clause-first
child_with_computed-requires-clause-first c = subst (Has c.args.store.now) (sym (lows c).0) (first_of c.args.store.now c.levels.ensures.sound c.args.key c.requires.key false).0

pub child_with_computed-requires-clause-second : goal.child_with_computed-requires-clause-second
child_with_computed-requires-clause-second c = subst (Has c.args.store.now) (sym (lows c).1) (second_of c.args.store.now c.levels.ensures.sound c.args.key c.requires.key false).0

pub child_with_computed-requires-2-clause-first : goal.child_with_computed-requires-2-clause-first
child_with_computed-requires-2-clause-first c = subst (Has c.args.store.now) (sym (highs (goal.at.child_with_computed-requires-2-clause-first c).After-cofactors-second).0) (first_of c.args.store.now c.levels.ensures.sound c.args.key c.requires.key true).0

pub child_with_computed-requires-2-clause-second : goal.child_with_computed-requires-2-clause-second
child_with_computed-requires-2-clause-second c = subst (Has c.args.store.now) (sym (highs (goal.at.child_with_computed-requires-2-clause-second c).After-cofactors-second).1) (second_of c.args.store.now c.levels.ensures.sound c.args.key c.requires.key true).0

pub returns-clause-low : goal.returns-clause-low
returns-clause-low c =
    let w = (goal.at.returns-clause-low c).After-cofactors-second in
    computed_cofactor_child c.args.store.now c.levels.ensures.sound c.args.computed.now c.requires.right c.args.key c.requires.key false c.child_with_computed.result
    (computed_cofactors c.args.store.now c.args.computed.now c.args.key false c.op-op.ensures.value (lows w).0 (lows w).1 c.child_with_computed.ensures.value)

pub returns-clause-high : goal.returns-clause-high
returns-clause-high c =
    let w = (goal.at.returns-clause-high c).After-cofactors-second in
    computed_cofactor_child c.args.store.now c.levels.ensures.sound c.args.computed.now c.requires.right c.args.key c.requires.key true c.child_with_computed-2.result
    (computed_cofactors c.args.store.now c.args.computed.now c.args.key true c.op-op.ensures.value (highs w).0 (highs w).1 c.child_with_computed-2.ensures.value)
