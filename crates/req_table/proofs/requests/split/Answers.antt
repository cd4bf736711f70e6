use Rattle.std.proofs.Common.{◌≡◌, ◌∙◌, ℕ, ◌<◌, Bool, true, false, ap, sym, subst}
use Rattle.dd_store.specs.declared.reference.Ref.{Ref}
use Rattle.dd_store.specs.Nodes.{Nodes, cofactor_of}
use Rattle.dd_store.specs.View.{Has}
use Rattle.req_table.specs.declared.Op.{Op}
use Rattle.req_table.specs.declared.Key.{Key}
use Rattle.req_table.specs.declared.Child.{Child}
use Rattle.req_table.specs.Keys.{level_of, child, child_of, IsDeeper, IsCofactorChild}
use Rattle.req_table.proofs.ComputedTables.{cofactor_at}
use Rattle.req_table.proofs.Waved.{bounded, first_of, second_of, child_deeper, child_half}
use Rattle.req_table.proofs.requests.split.Goals as goal
use Rattle.req_table.proofs.requests.split.Goals.{After-cofactors-second}

-- the operation on the cofactors is the key's child
of_cofactors : (S : Nodes) (k : Key) (b : Bool) {op : Op} {low high : Ref} {c : Child} → op ≡ k.op → low ≡ cofactor_of S k.f (level_of S k) b → high ≡ cofactor_of S k.g (level_of S k) b → c ≡ child S op low high → c ≡ child_of S k b
of_cofactors S k b {op} {low} {high} {c} eo el eh e =
    e ∙ ap (λ o. child S o low high) eo ∙ ap (λ r. child S k.op r high) el ∙ ap (λ r. child S k.op (cofactor_of S k.f (level_of S k) b) r) eh

first_low : (c : After-cofactors-second) → c.cofactors-first.result.0 ≡ cofactor_of c.args.store.now c.args.key.f (level_of c.args.store.now c.args.key) false
first_low c = cofactor_at c.args.store.now false c.f.ensures.value c.level_of-level.ensures c.cofactors-first.ensures.low

first_high : (c : After-cofactors-second) → c.cofactors-first.result.1 ≡ cofactor_of c.args.store.now c.args.key.f (level_of c.args.store.now c.args.key) true
first_high c = cofactor_at c.args.store.now true c.f.ensures.value c.level_of-level.ensures c.cofactors-first.ensures.high

second_low : (c : After-cofactors-second) → c.cofactors-second.result.0 ≡ cofactor_of c.args.store.now c.args.key.g (level_of c.args.store.now c.args.key) false
second_low c = cofactor_at c.args.store.now false c.g.ensures.value c.level_of-level.ensures c.cofactors-second.ensures.low

second_high : (c : After-cofactors-second) → c.cofactors-second.result.1 ≡ cofactor_of c.args.store.now c.args.key.g (level_of c.args.store.now c.args.key) true
second_high c = cofactor_at c.args.store.now true c.g.ensures.value c.level_of-level.ensures c.cofactors-second.ensures.high

pub cofactors-first-requires-clause-level : goal.cofactors-first-requires-clause-level
cofactors-first-requires-clause-level c = subst (λ (v : ℕ). v < c.args.store.now.levels) (sym c.level_of-level.ensures) (bounded c.args.store.now c.levels.ensures.sound c.args.key c.requires)

pub cofactors-second-requires-clause-level : goal.cofactors-second-requires-clause-level
cofactors-second-requires-clause-level c = subst (λ (v : ℕ). v < c.args.store.now.levels) (sym c.level_of-level.ensures) (bounded c.args.store.now c.levels.ensures.sound c.args.key c.requires)

pub child-low-requires-clause-first : goal.child-low-requires-clause-first
child-low-requires-clause-first c = subst (Has c.args.store.now) (sym (first_low c)) (first_of c.args.store.now c.levels.ensures.sound c.args.key c.requires false).0

pub child-low-requires-clause-second : goal.child-low-requires-clause-second
child-low-requires-clause-second c = subst (Has c.args.store.now) (sym (second_low c)) (second_of c.args.store.now c.levels.ensures.sound c.args.key c.requires false).0

pub child-high-requires-clause-first : goal.child-high-requires-clause-first
child-high-requires-clause-first c = subst (Has c.args.store.now) (sym (first_high (goal.at.child-high-requires-clause-first c).After-cofactors-second)) (first_of c.args.store.now c.levels.ensures.sound c.args.key c.requires true).0

pub child-high-requires-clause-second : goal.child-high-requires-clause-second
child-high-requires-clause-second c = subst (Has c.args.store.now) (sym (second_high (goal.at.child-high-requires-clause-second c).After-cofactors-second)) (second_of c.args.store.now c.levels.ensures.sound c.args.key c.requires true).0

pub returns-clause-deeper : goal.returns-clause-deeper
returns-clause-deeper c =
    let w = (goal.at.returns-clause-deeper c).After-cofactors-second in
    let low : c.child-low.result ≡ child_of c.args.store.now c.args.key false = of_cofactors c.args.store.now c.args.key false c.op-op.ensures.value (first_low w) (second_low w) c.child-low.ensures.value in
    let high : c.child-high.result ≡ child_of c.args.store.now c.args.key true = of_cofactors c.args.store.now c.args.key true c.op-op.ensures.value (first_high w) (second_high w) c.child-high.ensures.value in (
      subst (IsDeeper c.args.store.now (level_of c.args.store.now c.args.key)) (sym low) (child_deeper c.args.store.now c.levels.ensures.sound c.args.key c.requires false),
      subst (IsDeeper c.args.store.now (level_of c.args.store.now c.args.key)) (sym high) (child_deeper c.args.store.now c.levels.ensures.sound c.args.key c.requires true),
    )

pub returns-clause-low : goal.returns-clause-low
returns-clause-low c =
    let w = (goal.at.returns-clause-low c).After-cofactors-second in
    let low : c.child-low.result ≡ child_of c.args.store.now c.args.key false = of_cofactors c.args.store.now c.args.key false c.op-op.ensures.value (first_low w) (second_low w) c.child-low.ensures.value in
    subst (IsCofactorChild c.args.store.now c.args.key false) (sym low) (child_half c.args.store.now c.levels.ensures.sound c.args.key c.requires false)

pub returns-clause-high : goal.returns-clause-high
returns-clause-high c =
    let w = (goal.at.returns-clause-high c).After-cofactors-second in
    let high : c.child-high.result ≡ child_of c.args.store.now c.args.key true = of_cofactors c.args.store.now c.args.key true c.op-op.ensures.value (first_high w) (second_high w) c.child-high.ensures.value in
    subst (IsCofactorChild c.args.store.now c.args.key true) (sym high) (child_half c.args.store.now c.levels.ensures.sound c.args.key c.requires true)
