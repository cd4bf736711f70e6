use Rattle.std.proofs.Common.{◌+◌, List, map, length, ◌≡◌, ◌≤◌, ap, sym, ◌∙◌, subst, arith, Vec, Global, Some}
use Rattle.std.proofs.lemmas.List.{length-map}
use Rattle.gate_plan.specs.declared.steps.Step.{Step}
use Rattle.gate_plan.specs.Plans.{step_of}
use Rattle.gate_plan.proofs.Planning.{AddsSome, adds_none, adds_next, adds_same, adds_all, adds_ready}
use Rattle.gate_plan.proofs.steps.add_steps.Goals as goal
use Rattle.gate_plan.proofs.steps.add_steps.Goals.{in-Some+in_ok-add_at, in_default}

pub loop-fold-init : goal.loop-fold-init
loop-fold-init c = adds_none (map (λ row. row.items) c.args.folds.now.items) c.args.gate.now

pub add_at-requires : goal.add_at-requires
add_at-requires c =
    let e : step_of c.args.gate.now c.loop-fold.fold ≡ Some c.in-Some.step = sym c.step_of.ensures ∙ c.in-Some.is in
    let le : c.loop-fold.fold ≤ length (map (λ (row : Vec Step Global). row.items) c.loop-fold.folds.items) = adds_ready (map (λ row. row.items) c.args.folds.now.items) c.args.gate.now c.loop-fold.fold (map (λ row. row.items) c.loop-fold.folds.items) c.in-Some.step c.loop-fold.invariant e in
    simp length-map at le

pub loop-fold-preserved : goal.loop-fold-preserved
loop-fold-preserved c =
    let old : List (List Step) = map (λ row. row.items) c.args.folds.now.items in
    let mid : List (List Step) = map (λ row. row.items) c.loop-fold.folds.items in
    elim c.match-step_of.branch [
      | in-Some+in_ok-add_at w ↦ subst (λ (z : Vec (Vec Step Global) Global). AddsSome old c.args.gate.now (c.loop-fold.fold + 1) (map (λ row. row.items) z.items)) (sym w.folds-is)
          (adds_next old c.args.gate.now c.loop-fold.fold mid (map (λ row. row.items) w.add_at.new.lists.items) w.in-Some.step c.loop-fold.invariant (sym c.step_of.ensures ∙ w.in-Some.is) w.in_ok-add_at.ensures)
      | in_default w ↦ subst (λ (z : Vec (Vec Step Global) Global). AddsSome old c.args.gate.now (c.loop-fold.fold + 1) (map (λ row. row.items) z.items)) (sym w.folds-is)
          (adds_same old c.args.gate.now c.loop-fold.fold mid c.loop-fold.invariant (sym c.step_of.ensures ∙ w.in_default.is))
    ]

pub returns : goal.returns
returns c = adds_all (map (λ row. row.items) c.args.folds.now.items) c.args.gate.now c.loop-fold.fold (map (λ row. row.items) c.loop-fold.folds.items) c.loop-fold.invariant (omega (arith, ap length c.as_slice-operands.ensures)) c.requires
