use Rattle.std.proofs.Common.{◌∙◌, ◌++◌, ◌<◌, ap, sym, subst, length, map, arith, All, List}
use Rattle.dd_store.specs.declared.reference.Ref.{Ref}
use Rattle.gate_plan.specs.Building.{IsStepBelow, entry_of}
use Rattle.gate_plan.proofs.Together.{entries_next, entries_all}
use Rattle.gate_plan.proofs.sides.entries_of.Goals as goal

pub steps-requires-clause-plan : goal.steps-requires-clause-plan
steps-requires-clause-plan c = c.requires.plans c.index-sides-i.result (c.loop-i.i, omega arith, sym c.index-sides-i.is)

pub add_entries-requires : goal.add_entries-requires
add_entries-requires c =
    let low : c.loop-i.i < length c.args.sides.now = omega arith in
    let refs = c.index-built-i.result in
    subst (λ (z : List Ref). All (IsStepBelow (length z)) c.steps.result.now) (sym c.as_slice.ensures)
    (subst (All (IsStepBelow (length refs))) (sym c.steps.ensures) (c.requires.below.1 c.loop-i.i c.index-sides-i.result refs low (sym c.index-sides-i.is) (sym c.index-built-i.is)))

pub loop-i-preserved : goal.loop-i-preserved
loop-i-preserved c =
    let n = c.requires.below.0 in
    let low : c.loop-i.i < length c.args.sides.now = omega arith in
    let refs = c.index-built-i.result in
    let one = c.index-sides-i.result in
    entries_next c.args.sides.now c.args.built.now c.loop-i.i one refs c.args.rank c.args.fold low (omega arith) (sym c.index-sides-i.is) (sym c.index-built-i.is)
    c.loop-i.entries.items c.add_entries.new.entries.items _ c.loop-i.invariant
    (c.in_ok-add_entries.ensures ∙ ap (λ (z : List Ref). c.loop-i.entries.items ++ map (entry_of z) c.steps.result.now) c.as_slice.ensures ∙ ap (λ ss. c.loop-i.entries.items ++ map (entry_of refs) ss) c.steps.ensures)

pub returns : goal.returns
returns c = entries_all c.args.sides.now c.args.built.now c.loop-i.i c.args.rank c.args.fold c.loop-i.entries.items _ (omega arith) c.loop-i.invariant
