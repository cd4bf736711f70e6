use Rattle.std.proofs.Common.{◌≡◌, rules, [], ◌∷◌, ◌++◌, ap, sym, ◌∙◌, subst}
use Rattle.reduce_up.specs.AnswersByLevel.{joined, ArePlaced}
use Rattle.wave_doors.proofs.Placing.{joined_more, placed_more}
use Rattle.wave_doors.proofs.results.grow.Goals as goal

pub loop-alloc-preserved : goal.loop-alloc-preserved
loop-alloc-preserved c =
    let grown : c.push.new.self.items ≡ c.loop-alloc.rows.items ++ [] ∷ [] = search rules in
    record {
      same = ap joined grown ∙ joined_more c.loop-alloc.rows.items ∙ c.loop-alloc.invariant.same;
      placed = subst ArePlaced (sym grown) (placed_more c.loop-alloc.rows.items c.loop-alloc.invariant.placed);
    }

pub returns-in_err-push-clause-placed : goal.returns-in_err-push-clause-placed
returns-in_err-push-clause-placed c =
    let same : c.push.new.self.items ≡ c.loop-alloc.rows.items = search rules in
    subst ArePlaced (sym same) c.loop-alloc.invariant.placed
