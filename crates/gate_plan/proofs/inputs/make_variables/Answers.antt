use Rattle.std.proofs.Common.{refl, inr, sym, arith, subst, ◌∙◌, ◌≡◌, ◌<◌, ◌+◌, ◌++◌, ◌∷◌, [], ℕ, List, Bool, length, ap, length-append}
use Rattle.dd_store.specs.Graph.{bit}
use Rattle.dd_store.specs.Nodes.{Nodes, den}
use Rattle.dd_store.specs.View.{Has, Keeps}
use Rattle.dd_store.proofs.View.{keeps}
use Rattle.reduce_up.proofs.Reduction.{adds_none}
use Rattle.gate_plan.specs.Building.{reference_of, wave_fault_of}
use Rattle.gate_plan.specs.Folds.{IsVariable}
use Rattle.gate_plan.specs.Need.{IsCounted}
use Rattle.gate_plan.specs.Needing.{IsBuildFault}
use Rattle.gate_plan.proofs.Counted.{adds_next, within_next, fault_next, variable_adds, variable_within, variable_fault}
use Rattle.gate_plan.proofs.Lists.{pushed}
use Rattle.gate_plan.proofs.Running.{variable_next}
use Rattle.gate_plan.proofs.inputs.make_variables.Goals as goal

pub loop-level-init : goal.loop-level-init
loop-level-init c = record {
  sound = c.levels-level-end.ensures.sound;
  adds = adds_none c.args.store.now c.args.store.now (IsCounted c.args.store.now.levels (IsVariable c.args.store.now.levels)) refl;
  within = inr refl;
  each = search;
  has = λ v lt. absurd (omega arith);
  bits = λ v lt. absurd (omega arith);
}

pub loop-level-preserved : goal.loop-level-preserved
loop-level-preserved c =
    let S = c.loop-level.store in
    let T = c.variable.new.self in
    let vs = c.loop-level.variables.items in
    let new = c.push.new.self.items in
    let kept : Keeps S T = keeps S T c.variable.ensures.extends in
    let low : c.loop-level.level < S.levels = (let e = c.loop-level.invariant.adds.keeps.levels in omega arith) in
    let grown : new ≡ vs ++ c.in-Ok.variable ∷ [] = pushed c.push.result new vs c.in-Ok.variable c.push.ensures.items (sym c.if-is_err.ensures.value) in
    let next : (v : ℕ) → v < c.loop-level.level + 1 → Has T (reference_of new v) × ((x : List Bool) → den T (reference_of new v) x ≡ bit x v) =
    variable_next S T vs new c.loop-level.level c.in-Ok.variable c.loop-level.invariant.sound kept c.loop-level.invariant.each grown c.in-Ok.ensures.in_store c.in-Ok.ensures.meaning c.loop-level.invariant.has c.loop-level.invariant.bits in
    record {
      sound = c.variable.ensures.sound;
      adds = adds_next c.args.store.now S T IsVariable c.loop-level.invariant.sound c.loop-level.invariant.adds (variable_adds S T c.loop-level.level c.in-Ok.variable c.variable.ensures.sound low c.in-Ok.ensures.made c.in-Ok.ensures.meaning);
      within = within_next c.args.store.now S T c.loop-level.invariant.within (variable_within S T c.loop-level.level c.variable.result c.loop-level.invariant.sound low kept.limit c.variable.ensures.makes);
      each = ap length grown ∙ length-append vs (c.in-Ok.variable ∷ []) ∙ ap (λ n. n + 1) c.loop-level.invariant.each;
      has = λ v lt. (next v lt).0;
      bits = λ v lt. (next v lt).1;
    }

pub returns-in-Err-clause-adds : goal.returns-in-Err-clause-adds
returns-in-Err-clause-adds c =
    let S = c.loop-level.store in
    let T = c.variable.new.self in
    adds_next c.args.store.now S T IsVariable c.loop-level.invariant.sound c.loop-level.invariant.adds (adds_none S T (IsCounted S.levels (IsVariable S.levels)) c.in-Err.ensures.refused)

pub returns-in-Err-clause-within : goal.returns-in-Err-clause-within
returns-in-Err-clause-within c = within_next c.args.store.now c.loop-level.store c.variable.new.self c.loop-level.invariant.within (inr c.in-Err.ensures.refused)

pub returns-in-Err-clause-fault : goal.returns-in-Err-clause-fault
returns-in-Err-clause-fault c =
    let S = c.loop-level.store in
    let T = c.variable.new.self in
    let low : c.loop-level.level < S.levels = (let e = c.loop-level.invariant.adds.keeps.levels in omega arith) in
    let cause : IsBuildFault S.levels (IsVariable S.levels) T (wave_fault_of c.in-Err.fault) =
    subst (λ (z : Nodes). IsBuildFault S.levels (IsVariable S.levels) z (wave_fault_of c.in-Err.fault)) (sym c.in-Err.ensures.refused) (variable_fault S c.loop-level.level c.in-Err.fault c.loop-level.invariant.sound low c.in-Err.ensures.full) in
    subst (IsBuildFault c.args.store.now.levels (IsVariable c.args.store.now.levels) T) (sym c.wave_fault.ensures) (fault_next c.args.store.now S T IsVariable (wave_fault_of c.in-Err.fault) c.loop-level.invariant.adds.keeps cause)

pub returns-then-is_err-clause-adds : goal.returns-then-is_err-clause-adds
returns-then-is_err-clause-adds c =
    let S = c.loop-level.store in
    let T = c.variable.new.self in
    let low : c.loop-level.level < S.levels = (let e = c.loop-level.invariant.adds.keeps.levels in omega arith) in
    adds_next c.args.store.now S T IsVariable c.loop-level.invariant.sound c.loop-level.invariant.adds (variable_adds S T c.loop-level.level c.in-Ok.variable c.variable.ensures.sound low c.in-Ok.ensures.made c.in-Ok.ensures.meaning)

pub returns-then-is_err-clause-within : goal.returns-then-is_err-clause-within
returns-then-is_err-clause-within c =
    let S = c.loop-level.store in
    let T = c.variable.new.self in
    let low : c.loop-level.level < S.levels = (let e = c.loop-level.invariant.adds.keeps.levels in omega arith) in
    within_next c.args.store.now S T c.loop-level.invariant.within (variable_within S T c.loop-level.level c.variable.result c.loop-level.invariant.sound low (keeps S T c.variable.ensures.extends).limit c.variable.ensures.makes)

pub returns-clause-adds : goal.returns-clause-adds
returns-clause-adds c = c.loop-level.invariant.adds

pub returns-clause-within : goal.returns-clause-within
returns-clause-within c = c.loop-level.invariant.within
