use Rattle.std.proofs.Common.{◌≡◌, ℕ, List, sym, subst, ◌∙◌, map}
use Rattle.std.specs.List.{AllZip}
use Rattle.net_bench.specs.Circuit.{circuit}
use Rattle.net_merge.specs.SignalLiterals.{IsPairFinding}
use Rattle.inside_check.specs.Levels.{HasLevelsOf}
use Rattle.inside_check.proofs.EqualPairs.{equal_pairs, pair_of}
use Rattle.inside_check.proofs.inside.merged.Goals as goal

pub returns-in-Ok : goal.returns-in-Ok
returns-in-Ok g c =
    let m = c.in-Ok.merged in
    let a = c.args.task.now.first.now in
    let b = c.args.task.now.second.now in
    let p = c.args.naming.now in
    let levels_a = subst (λ (l : List ℕ). HasLevelsOf (circuit a) p.first l) (sym c.as_slice.ensures.value) c.in_ok-first.ensures in
    let levels_b = subst (λ (l : List ℕ). HasLevelsOf (circuit b) p.second l) (sym c.as_slice-2.ensures.value) c.in_ok-second.ensures in
    let wanted : c.as_slice-3.result.now ≡ map pair_of c.args.subjects.now = c.as_slice-3.ensures.value ∙ c.in_ok-wanted.ensures in
    equal_pairs a b c.count.ensures.sound c.count-2.ensures.sound p c.as_slice.result.now c.as_slice-2.result.now levels_a levels_b
    m.graph m.first m.second c.in-Ok.ensures.first c.in-Ok.ensures.second c.args.subjects.now m.equal c.requires.in_range
    (subst (λ (pairs : List (ℕ × ℕ)). AllZip (IsPairFinding m.graph m.first m.second) pairs m.equal) wanted c.in-Ok.ensures.found)
