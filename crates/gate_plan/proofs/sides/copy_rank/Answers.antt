use Rattle.std.proofs.Common.{◌∙◌, ◌<◌, ap, sym, subst, length, get_or, arith, All}
use Rattle.std.proofs.lemmas.List.{length-set}
use Rattle.gate_plan.specs.Building.{IsCopyBelow, copied_all}
use Rattle.gate_plan.proofs.Together.{there_at, set_left, set_copied}
use Rattle.gate_plan.proofs.sides.copy_rank.Goals as goal

pub copies-requires-clause-plan : goal.copies-requires-clause-plan
copies-requires-clause-plan c = c.requires.plans c.index-sides-i.result (c.loop-i.i, omega arith, sym c.index-sides-i.is)

pub copy-requires : goal.copy-requires
copy-requires c =
    let n = c.requires.below.0 in
    let m = c.loop-i.invariant.len in
    let low : c.loop-i.i < length c.args.sides.now = omega arith in
    let refs = get_or c.loop-i.built c.loop-i.i c.index-built-i.result in
    let there = there_at c.loop-i.built c.args.built.now c.loop-i.i c.index-built-i.result (omega arith) (λ rs. c.loop-i.invariant.left c.loop-i.i rs (omega arith)) in
    subst (All (IsCopyBelow (length refs))) (sym c.copies.ensures) (c.requires.below.1 c.loop-i.i c.index-sides-i.result refs low (sym c.index-sides-i.is) there)

pub loop-i-preserved : goal.loop-i-preserved
loop-i-preserved c =
    let n = c.requires.below.0 in
    let m = c.loop-i.invariant.len in
    let low : c.loop-i.i < length c.args.sides.now = omega arith in
    let refs = get_or c.loop-i.built c.loop-i.i c.index-built-i.result in
    let there = there_at c.loop-i.built c.args.built.now c.loop-i.i c.index-built-i.result (omega arith) (λ rs. c.loop-i.invariant.left c.loop-i.i rs (omega arith)) in
    record {
      len = length-set c.loop-i.built c.loop-i.i c.copy.new.self ∙ c.loop-i.invariant.len;
      left = set_left c.loop-i.built c.args.built.now c.loop-i.i c.copy.new.self c.loop-i.invariant.left;
      done = set_copied c.args.sides.now c.args.built.now c.loop-i.built c.loop-i.i c.args.rank c.index-sides-i.result refs c.copy.new.self low (omega arith) (omega arith) (sym c.index-sides-i.is) there
          (c.copy.ensures ∙ ap (copied_all refs) c.copies.ensures) c.loop-i.invariant.done;
    }

pub returns : goal.returns
returns c = (c.loop-i.invariant.len, λ k one refs lt at there. c.loop-i.invariant.done k one refs (omega arith) at there)
